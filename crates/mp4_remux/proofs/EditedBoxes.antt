-- Movie boxes that are edited, box by box.
use Rattle.std.proofs.Common.{◌≡◌, ◌∙◌, inl, inr, ℕ, zero, suc, ◌+◌, ◌^◌, ◌≤◌, ◌<◌, List, ◌++◌, length}
use Rattle.std.proofs.Common.{None, Some, refl, sym, ap, subst, append_assoc, arith}
use Rattle.std.proofs.lemmas.List.{length-append}
use Rattle.mp4_codec.specs.declared.box_type.BoxType.{BoxType}
use Rattle.mp4_codec.specs.declared.box_type.BoxType.TheVariants.{TrakBox}
use Rattle.mp4_codec.specs.declared.error.Error.{Error}
use Rattle.mp4_codec.specs.declared.error.Error.TheVariants.{TooLarge}
use Rattle.mp4_codec.specs.declared.error.Limit.TheVariants.{BoxSize}
use Rattle.mp4_remux.specs.Kept.{IsFirstBox}
use Rattle.mp4_remux.specs.Edit.{Change, IsEditedAt, IsWhyNotEdited, change_of, changed, changed_box, entered, inside}
use Rattle.mp4_remux.specs.Edit.{joined, no_box, track_after}
use Rattle.mp4_remux.specs.Edited.{AddsEdited, EndsSized, IsHeader, IsWhyNone, change_in}
use Rattle.mp4_remux.specs.Moved.{HasRoom, sized}
use Rattle.mp4_remux.specs.References.{first_part}
use Rattle.mp4_remux.specs.declared.movie_box.MovieEdit.{MovieEdit}
use Rattle.mp4_remux.specs.declared.movie_box.Step.{Step}
use Rattle.mp4_remux.specs.declared.movie_box.Step.TheVariants.{Drop, Edits, Enter, Header, Keep, Offsets, References}
use Rattle.mp4_remux.specs.declared.movie_box.Step.TheVariants.{Tables, TrackHeader}
use Rattle.mp4_remux.proofs.EditedOnce.{Becomes, becomes, edited_once, never_entered, whole, within}
use Rattle.mp4_remux.proofs.Editing.{some_not_none, was_added}
use Rattle.mp4_remux.proofs.Sizing.{short_fits}

-- a box is entered at the step that says so alone
pub enters_alone : (step : Step) → change_in step ≡ entered → step ≡ Enter
enters_alone Enter is = refl
enters_alone Keep is = absurd cc
enters_alone Drop is = absurd cc
enters_alone (Offsets width) is = absurd cc
enters_alone (Header duration) is = absurd cc
enters_alone (TrackHeader duration) is = absurd cc
enters_alone (Edits last) is = absurd cc
enters_alone (References ids) is = absurd cc
enters_alone (Tables tables) is = absurd cc

-- one track more at most
pub next_track : (level : ℕ) (name : BoxType) (track : ℕ) → track_after level name track ≤ track + 1
unfolding track_after
next_track zero name track = omega arith
next_track (suc zero) TrakBox track = omega arith
next_track (suc zero) _ track = omega arith
next_track (suc (suc level)) name track = omega arith

-- there is no room for a box whose header has 32 bits for its size
pub no_room : (header payload : List ℕ) → IsHeader header (length header) → length header < 16
    → 2 ^ 32 ≤ length header + length payload → HasRoom header (length payload) → ⊥
no_room header payload (is, inl short) few large room =
    omega (arith, large, short_fits header (length payload) short room)
no_room header payload (is, inr long) few large room = omega (arith, long, few)

module _ (edit : MovieEdit) (to : ℕ → ℕ) (base level : ℕ) where
  -- With what the rest becomes, what was added is what all becomes; and where all becomes something, so does the rest.
  pub record AreEdited (first_track track : ℕ) (bytes rest old new : List ℕ) : Type 0 where
    pub done : List ℕ
    pub is : new ≡ old ++ done
    pub later : (after : List ℕ) → IsEditedAt edit to base level track rest after
        → IsEditedAt edit to base level first_track bytes (done ++ after)
    pub also : (after : List ℕ) → IsEditedAt edit to base level first_track bytes after
        → (rest_after : List ℕ) × IsEditedAt edit to base level track rest rest_after

  module _ (first_track track : ℕ) (bytes rest old now : List ℕ)
      (upto : AreEdited first_track track bytes rest old now)
    where
      -- the bytes after the boxes stay
      pub all_edited : (new : List ℕ) → first_part rest ≡ None → new ≡ now ++ rest
          → AddsEdited edit to base level first_track bytes old new
      all_edited new none is =
          record {
            after = upto.done ++ rest;
            is = is ∙ ap (λ (xs : List ℕ). xs ++ rest) upto.is ∙ append_assoc old upto.done rest;
            edited = upto.later rest (no_box level track rest none);
          }

      module _ (name : BoxType) (header payload rest' : List ℕ)
          (first : IsFirstBox rest name header payload rest')
        where
          -- what comes after a box becomes something, where the box and that do
          rest_becomes : (after : List ℕ) → Becomes edit to base level track name header payload rest' after
              → (rest_after : List ℕ) × IsEditedAt edit to base level (track_after level name track) rest' rest_after
          rest_becomes after (within pa ra is m room o e) = (ra, o)
          rest_becomes after (whole ba ra is o e) = (ra, o)

          -- one box more
          piece_edited : (new piece : List ℕ) → new ≡ now ++ piece
              → ((after : List ℕ) → IsEditedAt edit to base level (track_after level name track) rest' after
              → IsEditedAt edit to base level track rest (piece ++ after))
              → AreEdited first_track (track_after level name track) bytes rest' old new
          piece_edited new piece is becoming =
              record {
                done = upto.done ++ piece;
                is = is ∙ ap (λ (xs : List ℕ). xs ++ piece) upto.is ∙ append_assoc old upto.done piece;
                later = λ after m. subst (λ (xs : List ℕ). IsEditedAt edit to base level first_track bytes xs)
                    (sym (append_assoc upto.done piece after)) (upto.later (piece ++ after) (becoming after m));
                also = λ after m.
                    let r = upto.also after m in
                    rest_becomes r.0 (becomes edit to base level track rest r.0 r.1 name header payload rest' first);
              }

          -- it is entered
          pub inside_edited : (new begin mid : List ℕ) → entered ≡ change_of edit level name track
              → begin ≡ now ++ header → (adds : AddsEdited edit to base (level + 1) track payload begin mid)
              → (mid ≡ now ++ (header ++ adds.after) → EndsSized now header adds.after new)
              → AreEdited first_track (track_after level name track) bytes rest' old new
          inside_edited new begin mid enters begun adds ends =
              let inner : List ℕ = adds.after in
              let sizes = ends (adds.is ∙ ap (λ (xs : List ℕ). xs ++ inner) begun ∙ append_assoc now header inner) in
              piece_edited new (sized header (length inner) ++ inner) sizes.1
              (λ after m. inside level track rest _ rest' after name header payload inner first (sym enters) adds.edited
              sizes.0 m (append_assoc (sized header (length inner)) inner after))

          -- it is changed
          pub step_edited : (new : List ℕ) (change : Change) → change ≡ change_of edit level name track
              → joined (Some now) (changed_box to base change header payload) ≡ Some new
              → AreEdited first_track (track_after level name track) bytes rest' old new
          step_edited new change same adds =
              let was = was_added (changed_box to base change header payload) now new adds in
              piece_edited new was.piece was.is
              (λ after m. changed level track rest _ rest' after name header payload was.piece first
              (ap (λ (c : Change). changed_box to base c header payload) (sym same) ∙ was.there) m refl)

          -- WHY NOT

          -- where what is in it becomes nothing, so do all
          pub not_inside : change_of edit level name track ≡ entered
              → ((after : List ℕ) → IsEditedAt edit to base (level + 1) track payload after
              → HasRoom header (length after) → ⊥)
              → (after : List ℕ) → IsEditedAt edit to base level first_track bytes after → ⊥
          not_inside enters never after m =
              let r = upto.also after m in
              by r.0 (becomes edit to base level track rest r.0 r.1 name header payload rest' first)
            where
              by : (zs : List ℕ) → Becomes edit to base level track name header payload rest' zs → ⊥
              by zs (within pa ra is m room o e) = never pa m room
              by zs (whole ba ra some o e) =
                  never_entered to base (change_of edit level name track) header payload ba enters some

          -- where it can't be changed, all become nothing
          pub not_changed : (step : Step) → change_in step ≡ change_of edit level name track → (step ≡ Enter → ⊥)
              → changed_box to base (change_in step) header payload ≡ None
              → (after : List ℕ) → IsEditedAt edit to base level first_track bytes after → ⊥
          not_changed step same never none after m =
              let r = upto.also after m in
              by r.0 (becomes edit to base level track rest r.0 r.1 name header payload rest' first)
            where
              by : (zs : List ℕ) → Becomes edit to base level track name header payload rest' zs → ⊥
              by zs (within pa ra is m room o e) = never (enters_alone step (same ∙ is))
              by zs (whole ba ra some o e) =
                  some_not_none (changed_box to base (change_of edit level name track) header payload) ba some
                  (ap (λ (c : Change). changed_box to base c header payload) (sym same) ∙ none)

          -- why all aren't edited: what is in the box isn't
          pub inner_not_edited : (e : Error) → entered ≡ change_of edit level name track
              → IsWhyNotEdited edit to base (level + 1) track payload e
              → IsWhyNotEdited edit to base level first_track bytes e
          inner_not_edited e enters (inl memory) = inl memory
          inner_not_edited e enters (inr (large, none)) =
              inr (large, not_inside (sym enters) (λ after m room. none after m))

          -- its size can't be said
          pub end_not_edited : (e : Error) → entered ≡ change_of edit level name track → IsHeader header (length header)
              → (start : ℕ) (begin mid : List ℕ) → start ≡ length now → begin ≡ now ++ header
              → AddsEdited edit to base (level + 1) track payload begin mid
              → (e ≡ TooLarge BoxSize) × ((length header < 16) × (start + 2 ^ 32 ≤ length mid))
              → IsWhyNotEdited edit to base level first_track bytes e
          end_not_edited e enters framed start begin mid starts begun adds (is, (short, large)) =
              let long : 2 ^ 32 ≤ length header + length adds.after =
              omega (
                arith,
                starts,
                large,
                ap length adds.is,
                length-append begin adds.after,
                ap length begun,
                length-append now header,
              ) in
              inr (
                inl is,
                not_inside (sym enters) (λ after m room.
                    no_room header after framed short
                    (subst (λ (xs : List ℕ). 2 ^ 32 ≤ length header + length xs)
                    (edited_once edit to base (level + 1) track payload adds.after adds.edited after m) long) room),
              )

          -- it can't be changed
          pub step_not_edited : (e : Error) (step : Step) → change_in step ≡ change_of edit level name track
              → (step ≡ Enter → ⊥) → IsWhyNone (changed_box to base (change_in step) header payload) e
              → IsWhyNotEdited edit to base level first_track bytes e
          step_not_edited e step same never (inl memory) = inl memory
          step_not_edited e step same never (inr (large, none)) = inr (large, not_changed step same never none)
