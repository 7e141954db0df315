use Rattle.std.proofs.Common.{◌-◌, ◌≡◌, ◌<◌, ◌≤◌, ℕ, None, Some, IfSome, length, slice_get}
use Rattle.mp4_codec.specs.declared.box_type.BoxType.TheVariants.{MoovBox as moov, MdatBox as mdat}
use Rattle.mp4_remux.specs.declared.top_level.TopBox.{TopBox}
use Rattle.mp4_remux.proofs.front.is_in_front.Given as goal

-- data was seen where a box of it is, and where none was seen there is none yet; no movie box so far came after data
abbrev pub invariant-loop-i : goal.invariant-loop-i
invariant-loop-i l = record {
  upto : l.i ≤ length l.boxes;
  boxes_are : l.boxes ≡ l.fn.boxes;
  some : IfSome l.data (λ j. (j < l.i) × ((d : TopBox) × ((slice_get l.fn.boxes j ≡ Some d) × (d.name ≡ mdat))));
  none : l.data ≡ None → (d : TopBox) (i : ℕ) → i < l.i → slice_get l.fn.boxes i ≡ Some d → d.name ≡ mdat → ⊥;
  first : (d m : TopBox) (i j : ℕ) → i < j → j < l.i → slice_get l.fn.boxes i ≡ Some d
      → slice_get l.fn.boxes j ≡ Some m → d.name ≡ mdat → m.name ≡ moov → ⊥;
}

abbrev pub decreases-loop-i : goal.decreases-loop-i
decreases-loop-i l = length l.boxes - l.i
