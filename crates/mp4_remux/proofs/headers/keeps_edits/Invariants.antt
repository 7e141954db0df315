use Rattle.std.proofs.Common.{◌-◌, ◌≡◌, ◌≤◌, ◌<◌, ℕ, Some, length}
use Rattle.std.specs.Prelude.{slice_get}
use Rattle.mp4_leaf.specs.declared.elst.ElstEntry.{ElstEntry}
use Rattle.mp4_remux.specs.Headers.{IsEditAt}
use Rattle.mp4_remux.proofs.headers.keeps_edits.Given as goal

-- the edits that were looked at are as they were
abbrev pub invariant-loop-i : goal.invariant-loop-i
invariant-loop-i l = record {
  upto : l.i ≤ length l.is;
  count : length l.is ≡ length l.was;
  is : l.is ≡ l.fn.is;
  was : l.was ≡ l.fn.was;
  each : (e : ElstEntry) (j : ℕ) → j < l.i → slice_get l.is j ≡ Some e → IsEditAt l.was j e;
}

abbrev pub decreases-loop-i : goal.decreases-loop-i
decreases-loop-i l = length l.is - l.i
