use Rattle.mp4_lookup.proofs.Searches.{strictly_rise}
use Rattle.mp4_lookup.proofs.Syncs.{last_number_upto, no_number_upto, none_upto}
use Rattle.std.proofs.Common.{sym, ◌∙◌, arith}
use Rattle.mp4_lookup.proofs.seek.last_upto.Goals as goal

pub last_at_most-requires-clause-rises : goal.last_at_most-requires-clause-rises
last_at_most-requires-clause-rises c = strictly_rise c.args.numbers.now c.requires.rises

pub returns-in_default-clause-number : goal.returns-in_default-clause-number
returns-in_default-clause-number c =
    none_upto c.args.numbers.now c.args.k (rw c.in_default.is at c.last_at_most.ensures.none)

pub returns-then-found-eq0-clause-number : goal.returns-then-found-eq0-clause-number
returns-then-found-eq0-clause-number c =
    let found = rw c.in-Some.is at c.last_at_most.ensures.found in
    no_number_upto c.args.numbers.now c.args.k c.in-Some.found.index
    (strictly_rise c.args.numbers.now c.requires.rises) found.0 (sym found.1 ∙ c.if-found-eq0.true)

pub returns-clause-number : goal.returns-clause-number
returns-clause-number c =
    let found = rw c.in-Some.is at c.last_at_most.ensures.found in
    last_number_upto c.args.numbers.now c.args.k c.in-Some.found.index c.in-Some.found.number
    (strictly_rise c.args.numbers.now c.requires.rises) found.0 found.1 (omega (arith, c.if-found-eq0.false))
