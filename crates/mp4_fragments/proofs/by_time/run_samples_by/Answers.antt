use Rattle.std.proofs.Common.{arith}
use Rattle.mp4_fragments.proofs.Decoding.{digits_32}
use Rattle.mp4_fragments.specs.Index.{run_at}
use Rattle.mp4_fragments.proofs.Decoding.{run_samples_parted, placed_here, placed_is, placed_nowhere}
use Rattle.mp4_fragments.proofs.by_time.run_samples_by.Goals as goal

pub returns-in_default-clause-point : goal.returns-in_default-clause-point
returns-in_default-clause-point c = λ p there.
    absurd (placed_nowhere (run_at c.args.trafs.now c.args.track) c.args.entry.now p c.in_default.ensures there)

pub invariant_of-run_samples : goal.invariant_of-run_samples
invariant_of-run_samples c = record {
  right = rw (c.at.ensures, c.checks.ensures) (c.requires.right.checks _
      (placed_here (run_at c.args.trafs.now c.args.track) c.args.entry.now c.in-Some.run'.now
      c.in-Some.defaults c.in-Some.ensures));
  counted = omega arith;
}

pub partition_point-requires-clause-parted : goal.partition_point-requires-clause-parted
partition_point-requires-clause-parted c =
    run_samples_parted c.in-Some.run'.now c.in-Some.defaults c.at.result c.args.time c.min-n.result

pub returns-clause-point : goal.returns-clause-point
returns-clause-point c = λ p there.
    let is = placed_is (run_at c.args.trafs.now c.args.track) c.args.entry.now c.in-Some.run'.now c.in-Some.defaults p
    c.in-Some.ensures there in
    rw (is, ← c.min-n.ensures, ← c.at.ensures) c.partition_point.ensures.point

pub returns-in_default-clause-counted : goal.returns-in_default-clause-counted
returns-in_default-clause-counted c = λ p there.
    absurd (placed_nowhere (run_at c.args.trafs.now c.args.track) c.args.entry.now p c.in_default.ensures there)

pub returns-clause-counted : goal.returns-clause-counted
returns-clause-counted c = λ p there.
    let is = placed_is (run_at c.args.trafs.now c.args.track) c.args.entry.now c.in-Some.run'.now c.in-Some.defaults p
    c.in-Some.ensures there in
    rw (is, ← c.min-n.ensures, ← c.at.ensures) c.partition_point.ensures.counted

pub returns-clause-few : goal.returns-clause-few
returns-clause-few c = omega (arith, c.partition_point.ensures.few, digits_32 c.min-n.result (omega arith))
