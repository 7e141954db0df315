use Rattle.std.proofs.Common.{◌-◌, ◌≡◌, ◌≤◌, ◌<◌, ℕ, length, slice_index_or}
use Rattle.mp4_remux.specs.declared.reference.Reference.{Reference}
use Rattle.mp4_remux.proofs.reference.are_same.Given as goal

-- those that were looked at are the same
abbrev pub invariant-loop-i : goal.invariant-loop-i
invariant-loop-i l = record {
  many : length l.one ≡ length l.other;
  upto : l.i ≤ length l.one;
  one_is : l.one ≡ l.fn.one;
  other_is : l.other ≡ l.fn.other;
  same : (d e : Reference) (j : ℕ) → j < l.i → slice_index_or l.one j d ≡ slice_index_or l.other j e;
}

abbrev pub decreases-loop-i : goal.decreases-loop-i
decreases-loop-i l = length l.one - l.i
