use Rattle.std.proofs.Common.{◌+◌, arith}
use Rattle.mp4_lookup.proofs.Searches.{climbs, strictly_rise}
use Rattle.mp4_lookup.proofs.timing.SyncGap.search.Goals as goal

pub last_at_most-requires-clause-rises : goal.last_at_most-requires-clause-rises
last_at_most-requires-clause-rises c = rw c.requires.same (strictly_rise c.args.numbers.now c.requires.rises)

pub up_to-requires-clause-rises : goal.up_to-requires-clause-rises
up_to-requires-clause-rises c = strictly_rise c.args.numbers.now c.requires.rises

pub up_to-requires-then-found-k-clause-rises : goal.up_to-requires-then-found-k-clause-rises
up_to-requires-then-found-k-clause-rises c = strictly_rise c.args.numbers.now c.requires.rises

pub up_to-requires-then-found-k-clause-earlier : goal.up_to-requires-then-found-k-clause-earlier
up_to-requires-then-found-k-clause-earlier c = λ i before.
    let numbers = c.args.numbers.now in
    let found = rw c.requires.same at (rw c.in-Some.is at c.last_at_most.ensures.found) in
    omega (
      arith,
      climbs numbers c.requires.rises (i + 1) c.in-Some.found.index (omega (arith, before)) found.0.within,
      c.requires.rises i (omega (arith, before, found.0.within)),
      found.1,
      c.if-found-k.true,
    )

pub up_to-requires-else-found-k-clause-rises : goal.up_to-requires-else-found-k-clause-rises
up_to-requires-else-found-k-clause-rises c = strictly_rise c.args.numbers.now c.requires.rises

pub up_to-requires-else-found-k-clause-earlier : goal.up_to-requires-else-found-k-clause-earlier
up_to-requires-else-found-k-clause-earlier c = λ i before.
    let numbers = c.args.numbers.now in
    let found = rw c.requires.same at (rw c.in-Some.is at c.last_at_most.ensures.found) in
    omega (
      arith,
      climbs numbers c.requires.rises i c.in-Some.found.index (omega (arith, before)) found.0.within,
      found.1,
      found.0.small,
      c.if-found-k.false,
    )
