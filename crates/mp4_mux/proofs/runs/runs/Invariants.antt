use Rattle.std.proofs.Common.{◌≡◌, ◌≤◌, ◌+◌, ◌++◌, length}
use Rattle.mp4_mux.specs.Columns.{values_of}
use Rattle.mp4_mux.specs.SampleTables.{runs_from, runs_of}
use Rattle.mp4_mux.proofs.ColumnRuns.{rest}
use Rattle.mp4_mux.proofs.runs.runs.Given as goal

abbrev pub invariant-loop-i : goal.invariant-loop-i
invariant-loop-i g l = record {
  so_far : l.runs.items ++ runs_from g.T.PartialEq.eq g.R.TableRun.run l.count l.value (rest l.column l.i)
      ≡ runs_of g.T.PartialEq.eq g.R.TableRun.run (values_of l.column);
  count : l.count + length (rest l.column l.i) ≤ length (values_of l.column);
}
