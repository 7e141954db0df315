use Rattle.std.proofs.Common.{◌<◌, ◌*◌, ◌-◌, ◌^◌, arith, min}
use Rattle.std.proofs.lemmas.List.Sums.{sum_by_more}
use Rattle.std.proofs.lemmas.List.Elements.{All-more}
use Rattle.mp4_table.specs.declared.stts.SttsEntry.{SttsEntry}
use Rattle.mp4_lookup.proofs.Sums.{RunningSums-push}
use Rattle.mp4_lookup.proofs.index.times_before.Goals as goal

pub loop-run-preserved : goal.loop-run-preserved
loop-run-preserved c =
    let d : SttsEntry = record { sample_count = 0; sample_delta = 0 } in
    let runs = c.args.runs.now in
    let i = c.loop-run.run-index in
    let inv = c.loop-run.invariant in
    let ticks = λ (r : SttsEntry). r.sample_count * r.sample_delta in
    record {
      so_far = rw c.in_ok-push.ensures.items
          (RunningSums-push (λ n. min (2 ^ 64 - 1) n) ticks runs c.loop-run.times.items i c.loop-run.time
          (omega arith) inv.so_far inv.time);
      time = omega (
        arith,
        rw (c.from.ensures, c.from-in-loop-run.ensures) at c.saturating_add-time.ensures,
        inv.time,
        sum_by_more ticks runs i d (omega arith),
      );
      small = All-more (λ (r : SttsEntry). r.sample_delta < 2 ^ 32) runs i d (omega arith) inv.small (omega arith);
    }
