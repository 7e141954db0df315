use Rattle.std.proofs.Common.{◌≡◌, fold, max}
use Rattle.mp4_mux.specs.Columns.{values_of}
use Rattle.mp4_mux.proofs.ColumnRuns.{rest}
use Rattle.mp4_mux.proofs.column_tables.largest.Given as goal

abbrev pub invariant-loop-i : goal.invariant-loop-i
invariant-loop-i l = fold max l.largest (rest l.column l.i) ≡ fold max 0 (values_of l.column)
