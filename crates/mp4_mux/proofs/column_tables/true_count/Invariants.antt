use Rattle.std.proofs.Common.{◌≡◌, ◌+◌}
use Rattle.std.specs.List.{count_by}
use Rattle.mp4_mux.specs.Columns.{values_of}
use Rattle.mp4_mux.proofs.ColumnRuns.{rest}
use Rattle.mp4_mux.proofs.column_tables.true_count.Given as goal

abbrev pub invariant-loop-i : goal.invariant-loop-i
invariant-loop-i l = l.count + count_by (λ b. b) (rest l.column l.i) ≡ count_by (λ b. b) (values_of l.column)
