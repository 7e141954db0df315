use Rattle.std.proofs.Common.{◌≡◌, ◌+◌, ◌++◌, length}
use Rattle.mp4_mux.specs.Columns.{values_of}
use Rattle.mp4_mux.specs.ColumnTables.{true_numbers_from}
use Rattle.mp4_mux.proofs.ColumnRuns.{rest}
use Rattle.mp4_mux.proofs.column_tables.true_numbers.Given as goal

abbrev pub invariant-loop-i : goal.invariant-loop-i
invariant-loop-i l = record {
  so_far : l.numbers.items ++ true_numbers_from (l.before + 1) (rest l.column l.i)
      ≡ true_numbers_from 1 (values_of l.column);
  before : l.before + length (rest l.column l.i) ≡ length (values_of l.column);
}
