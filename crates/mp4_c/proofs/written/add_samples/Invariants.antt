-- The writer has the samples of the rows that were passed over, and refused none.
use Rattle.std.proofs.Common.{take}
use Rattle.mp4_mux.specs.Writing.{WriterState}
use Rattle.mp4_media.specs.WriterFields.{MayHold}
use Rattle.mp4_c.specs.Written.{AreWritten, with_rows}
use Rattle.mp4_c.proofs.written.add_samples.Given as goal

abbrev pub invariant-loop-k : goal.invariant-loop-k
invariant-loop-k g l = record {
  added : (st : WriterState) → MayHold l.initial.writer st
      → MayHold l.writer (with_rows l.source st (take l.k l.rows));
  written : (st : WriterState) → MayHold l.initial.writer st → AreWritten l.source st (take l.k l.rows);
}
