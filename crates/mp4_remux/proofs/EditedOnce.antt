-- Bytes that are edited become one list of bytes alone.
use Rattle.std.proofs.Common.{◌≡◌, ◌∙◌, ℕ, ◌+◌, List, ◌++◌, length, None, Some, refl, sym, ap, subst}
use Rattle.mp4_codec.specs.declared.box_type.BoxType.{BoxType}
use Rattle.mp4_remux.specs.Kept.{IsFirstBox}
use Rattle.mp4_remux.specs.Edit.{Change, IsEditedAt, change_of, changed, changed_box, entered, inside, no_box}
use Rattle.mp4_remux.specs.Edit.{track_after}
use Rattle.mp4_remux.specs.Moved.{HasRoom, sized}
use Rattle.mp4_remux.specs.References.{first_part}
use Rattle.mp4_remux.specs.declared.movie_box.MovieEdit.{MovieEdit}
use Rattle.mp4_remux.proofs.Growing.{AreSame, begins, same_first}

-- a box that is entered isn't changed as a whole
pub never_entered : (to : ℕ → ℕ) (base : ℕ) (change : Change) (header payload after : List ℕ) → change ≡ entered
    → changed_box to base change header payload ≡ Some after → ⊥
unfolding changed_box
never_entered to base change header payload after is some =
    let no = rw is at some in absurd cc

module _ (edit : MovieEdit) (to : ℕ → ℕ) (base : ℕ) where
  -- what a level's bytes become that begin with a box
  pub data Becomes (level track : ℕ) (name : BoxType) (header payload rest zs : List ℕ) : Type 0 where
    within : (payload_after rest_after : List ℕ) → change_of edit level name track ≡ entered
        → IsEditedAt edit to base (level + 1) track payload payload_after → HasRoom header (length payload_after)
        → IsEditedAt edit to base level (track_after level name track) rest rest_after
        → zs ≡ sized header (length payload_after) ++ (payload_after ++ rest_after)
        → Becomes level track name header payload rest zs
    whole : (box_after rest_after : List ℕ)
        → changed_box to base (change_of edit level name track) header payload ≡ Some box_after
        → IsEditedAt edit to base level (track_after level name track) rest rest_after
        → zs ≡ box_after ++ rest_after → Becomes level track name header payload rest zs

  -- the same of a box that is another
  becomes_too : (level track : ℕ) (name other : BoxType)
      (header header_too payload payload_too rest rest_too zs : List ℕ)
      → AreSame name other header header_too payload payload_too rest rest_too
      → Becomes level track name header payload rest zs
      → Becomes level track other header_too payload_too rest_too zs
  becomes_too level track name other header header_too payload payload_too rest rest_too zs same becomes =
      subst (λ (r : List ℕ). Becomes level track other header_too payload_too r zs) same.rests
      (subst (λ (p : List ℕ). Becomes level track other header_too p rest zs) same.payloads
      (subst (λ (h : List ℕ). Becomes level track other h payload rest zs) same.headers
      (subst (λ (n : BoxType). Becomes level track n header payload rest zs) same.names becomes)))

  pub becomes : (level track : ℕ) (xs zs : List ℕ) → IsEditedAt edit to base level track xs zs → (name : BoxType)
      (header payload rest : List ℕ) → IsFirstBox xs name header payload rest
      → Becomes level track name header payload rest zs
  becomes level track xs zs (no_box l t bytes none) name header payload rest first =
      absurd (begins xs name header payload rest first none)
  becomes level track xs zs (inside l t before after r ra n h p pa own is m room o e) name header payload rest first =
      becomes_too level track n name h header p payload r rest zs
      (same_first xs n name h header p payload r rest own first) (within pa ra is m room o e)
  becomes level track xs zs (changed l t before after r ra n h p ba own is o e) name header payload rest first =
      becomes_too level track n name h header p payload r rest zs
      (same_first xs n name h header p payload r rest own first) (whole ba ra is o e)

  none_once : (level track : ℕ) (xs zs : List ℕ) → first_part xs ≡ None → IsEditedAt edit to base level track xs zs
      → xs ≡ zs
  none_once level track xs zs none (no_box l t bytes also) = refl
  none_once level track xs zs none (inside l t before after r ra n h p pa own is m room o e) =
      absurd (begins xs n h p r own none)
  none_once level track xs zs none (changed l t before after r ra n h p ba own is o e) =
      absurd (begins xs n h p r own none)

  -- it is what the box becomes, and then what the rest does
  module _ (level track : ℕ) (name : BoxType) (header payload rest ra ys zs : List ℕ)
      (others : (q : List ℕ) → IsEditedAt edit to base level (track_after level name track) rest q → ra ≡ q)
    where
      within_once : (pa : List ℕ) → change_of edit level name track ≡ entered
          → ((q : List ℕ) → IsEditedAt edit to base (level + 1) track payload q → pa ≡ q)
          → ys ≡ sized header (length pa) ++ (pa ++ ra) → Becomes level track name header payload rest zs → ys ≡ zs
      within_once pa is inner e (within pb rb also m room o f) =
          e ∙ ap (λ (q : List ℕ). sized header (length q) ++ (q ++ ra)) (inner pb m)
          ∙ ap (λ (q : List ℕ). sized header (length pb) ++ (pb ++ q)) (others rb o) ∙ sym f
      within_once pa is inner e (whole ba rb some o f) =
          absurd (never_entered to base (change_of edit level name track) header payload ba is some)

      whole_once : (ba : List ℕ) → changed_box to base (change_of edit level name track) header payload ≡ Some ba
          → ys ≡ ba ++ ra → Becomes level track name header payload rest zs → ys ≡ zs
      whole_once ba some e (within pb rb is m room o f) =
          absurd (never_entered to base (change_of edit level name track) header payload ba is some)
      whole_once ba some e (whole bb rb also o f) =
          let same : ba ≡ bb = cc in
          e ∙ ap (λ (q : List ℕ). q ++ ra) same ∙ ap (λ (q : List ℕ). bb ++ q) (others rb o) ∙ sym f

  -- edited in the same way, the same bytes become the same
  pub edited_once : (level track : ℕ) (xs ys : List ℕ) → IsEditedAt edit to base level track xs ys → (zs : List ℕ)
      → IsEditedAt edit to base level track xs zs → ys ≡ zs
  edited_once level track xs ys (no_box l t bytes none) zs m = none_once level track xs zs none m
  edited_once level track xs ys (inside l t before after r ra n h p pa own is inner room o e) zs m =
      within_once level track n h p r ra ys zs (edited_once level (track_after level n track) r ra o) pa is
      (edited_once (level + 1) track p pa inner) e (becomes level track xs zs m n h p r own)
  edited_once level track xs ys (changed l t before after r ra n h p ba own is o e) zs m =
      whole_once level track n h p r ra ys zs (edited_once level (track_after level n track) r ra o) ba is e
      (becomes level track xs zs m n h p r own)
