use Rattle.std.proofs.Common.{◌≤◌, ◌-◌, length}
use Rattle.std.specs.Prelude.{IfSome}
use Rattle.mp4_faults.specs.Inner.{inner, end_of}
use Rattle.mp4_faults.proofs.Searching.{LastSoFar, Searched}
use Rattle.mp4_faults.proofs.wrong_id.last_child.Given as goal

-- So many children of the type are before the place, and this is the last of them.
abbrev pub invariant-loop-child : goal.invariant-loop-child
invariant-loop-child l = record {
  searched : Searched l.name l.payload l.place l.count;
  last : LastSoFar l.name l.payload l.place l.count l.last;
  within : IfSome l.last (λ x. end_of (inner x.1) ≤ length l.payload);
  onward : IfSome l.last (λ x. x.1.place ≤ x.1.from);
}

abbrev pub decreases-loop-child : goal.decreases-loop-child
decreases-loop-child l = length l.payload - l.place
