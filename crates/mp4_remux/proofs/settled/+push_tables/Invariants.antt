use Rattle.std.proofs.Common.{◌-◌, length}
use Rattle.mp4_remux.proofs.settled.+push_tables.Given as goal

abbrev pub decreases-push_tables : goal.decreases-push_tables
decreases-push_tables a = 5 - a.level

abbrev pub decreases-loop-one : goal.decreases-loop-one
decreases-loop-one l = length l.rest
