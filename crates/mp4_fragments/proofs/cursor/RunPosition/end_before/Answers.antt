use Rattle.std.proofs.Common.{refl, arith}
use Rattle.mp4_fragments.proofs.Cursors.{run_end_of}
use Rattle.mp4_fragments.proofs.cursor.RunPosition.end_before.Goals as goal

pub returns-else-is_before_run_sample : goal.returns-else-is_before_run_sample
returns-else-is_before_run_sample c = λ runs at. (
  run_end_of runs c.in-InRun.cursor _ (rw c.in-InRun.is at at)
      (omega (arith, c.if-is_before_run_sample.ensures.after)) refl (omega (arith, c.if-cursor-number.false)),
  refl,
)
