use Rattle.std.proofs.Common.{◌≡◌, ◌++◌}
use Rattle.mp4_mux.specs.Columns.{values_of}
use Rattle.mp4_mux.proofs.ColumnRuns.{rest}
use Rattle.mp4_mux.proofs.column_tables.values.Given as goal

abbrev pub invariant-loop-i : goal.invariant-loop-i
invariant-loop-i l = l.values.items ++ rest l.column l.i ≡ values_of l.column
