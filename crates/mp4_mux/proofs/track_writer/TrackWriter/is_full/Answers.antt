use Rattle.std.proofs.Common.{arith, drop}
use Rattle.std.proofs.lemmas.Bool.Decides.{nat_tests}
use Rattle.mp4_mux.specs.Chunks.{is_full}
use Rattle.mp4_mux.proofs.SampleLaws.{durations-samples_in, bytes-samples_in}
use Rattle.mp4_mux.proofs.track_writer.TrackWriter.is_full.Goals as goal

pub returns-then-self : goal.returns-then-self
unfolding is_full
returns-then-self c =
    let rest = drop c.self.inside.closed c.self.inside.samples in
    rw (
      ← c.self.view_is,
      durations-samples_in rest c.self.inside.pending.items,
      bytes-samples_in rest c.self.inside.pending.items c.self.invariant.sizes,
      c.self.invariant.pending_sum,
    )
    (grind (arith, nat_tests))

pub returns-else-self : goal.returns-else-self
unfolding is_full
returns-else-self c =
    let rest = drop c.self.inside.closed c.self.inside.samples in
    rw (
      ← c.self.view_is,
      durations-samples_in rest c.self.inside.pending.items,
      bytes-samples_in rest c.self.inside.pending.items c.self.invariant.sizes,
      c.self.invariant.pending_sum,
    )
    (grind (arith, nat_tests))
