use Rattle.std.proofs.Common.{◌≡◌, ◌+◌}
use Rattle.mp4_table.specs.Runs.{changes_after, changes}
use Rattle.mp4_mux.specs.Columns.{values_of}
use Rattle.mp4_mux.proofs.ColumnRuns.{rest}
use Rattle.mp4_mux.proofs.runs.run_count.Given as goal

abbrev pub invariant-loop-i : goal.invariant-loop-i
invariant-loop-i g l =
    l.count + changes_after g.T.PartialEq.eq l.value (rest l.column l.i) ≡ changes g.T.PartialEq.eq (values_of l.column)
