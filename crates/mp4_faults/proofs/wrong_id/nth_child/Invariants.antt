use Rattle.std.proofs.Common.{◌<◌, ◌-◌, length}
use Rattle.mp4_faults.proofs.Searching.{Searched}
use Rattle.mp4_faults.proofs.wrong_id.nth_child.Given as goal

-- So many children of the type are before the place, which are fewer than the number.
abbrev pub invariant-loop-child : goal.invariant-loop-child
invariant-loop-child l = record {
  searched : Searched l.name l.payload l.place l.count;
  few : 0 < l.number → l.count < l.number;
}

abbrev pub decreases-loop-child : goal.decreases-loop-child
decreases-loop-child l = length l.payload - l.place
