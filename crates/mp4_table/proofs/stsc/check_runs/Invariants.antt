use Rattle.std.proofs.Common.{◌≡◌, ◌-◌, None}
use Rattle.mp4_table.specs.Stsc.{runs_fault}
use Rattle.mp4_table.proofs.stsc.check_runs.Given as goal

abbrev pub invariant-loop : goal.invariant-loop
invariant-loop l = runs_fault l.before (l.count - l.counter) l.fields ≡ runs_fault None l.count l.fn.fields
