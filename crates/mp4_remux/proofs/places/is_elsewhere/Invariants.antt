use Rattle.std.proofs.Common.{length}
use Rattle.mp4_remux.proofs.places.is_elsewhere.Given as goal

abbrev pub decreases-loop-entry : goal.decreases-loop-entry
decreases-loop-entry l = length l.rest
