use Rattle.std.proofs.Common.{◌-◌, length}
use Rattle.mp4_faults.proofs.Looking.{Looking}
use Rattle.mp4_faults.proofs.innermost.first_refused.Given as goal

abbrev pub invariant-loop-child : goal.invariant-loop-child
invariant-loop-child l = Looking l.parent.name l.parent.payload.now l.place l.before

abbrev pub decreases-loop-child : goal.decreases-loop-child
decreases-loop-child l = length l.parent.payload.now - l.place
