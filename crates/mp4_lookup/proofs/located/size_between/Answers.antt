use Rattle.std.proofs.Common.{sym, arith}
use Rattle.mp4_lookup.proofs.RuleLaws.{sum-sizes_one, sizes_are_listed}
use Rattle.mp4_lookup.proofs.Searches.{sums_between}
use Rattle.mp4_lookup.proofs.located.size_between.Goals as goal

pub returns-then-stsz-gt0-clause-sum : goal.returns-then-stsz-gt0-clause-sum
returns-then-stsz-gt0-clause-sum c =
    rw (c.from.ensures, c.from-then-stsz-gt0.ensures)
    (sym (sum-sizes_one c.args.stsz.now c.args.first c.args.k c.requires.from c.requires.to c.if-stsz-gt0.true))

pub between-requires-clause-order : goal.between-requires-clause-order
between-requires-clause-order c =
    let z = c.args.stsz.now in
    let there = rw (sizes_are_listed z c.args.k c.if-stsz-gt0.false) at c.requires.there in
    omega (
      arith,
      sums_between z.sample_sizes c.args.sums.now c.args.first c.args.k c.requires.sums c.requires.small
          c.requires.from c.requires.to there (omega arith),
    )

pub returns-clause-sum : goal.returns-clause-sum
returns-clause-sum c =
    let z = c.args.stsz.now in
    let listed = sizes_are_listed z c.args.k c.if-stsz-gt0.false in
    let there = rw listed at c.requires.there in
    rw listed (omega (
      arith,
      c.between.ensures.sum,
      sums_between z.sample_sizes c.args.sums.now c.args.first c.args.k c.requires.sums c.requires.small
          c.requires.from c.requires.to there (omega arith),
    ))
