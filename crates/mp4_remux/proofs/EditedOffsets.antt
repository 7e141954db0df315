-- An edit of chunk offsets alone moves them, and does nothing else.
use Rattle.std.proofs.Common.{◌≡◌, ◌∙◌, ℕ, zero, suc, ◌+◌, ◌^◌, ◌<◌, List, ◌++◌, length}
use Rattle.std.proofs.Common.{None, Some, if◌then◌else◌, nat_lt, refl, ap, subst, arith, append_assoc}
use Rattle.mp4_codec.specs.declared.box_type.BoxType.{BoxType}
use Rattle.mp4_codec.specs.declared.box_type.BoxType.TheVariants.{MoovBox, TrakBox, MdiaBox, MinfBox, StblBox}
use Rattle.mp4_codec.specs.declared.box_type.BoxType.TheVariants.{EdtsBox, MdhdBox, MvexBox, MvhdBox, TkhdBox}
use Rattle.mp4_codec.specs.declared.box_type.BoxType.TheVariants.{StcoBox, Co64Box}
use Rattle.mp4_codec.specs.declared.error.Error.{Error}
use Rattle.mp4_remux.specs.Kept.{IsFirstBox}
use Rattle.mp4_remux.specs.Edit.{Change, IsEditedAt, change_of, changed, changed_box, entered, inside, kept, left_out}
use Rattle.mp4_remux.specs.Edit.{made_at, moved, no_box, referring, shown, tabled, timed}
use Rattle.mp4_remux.specs.Edited.{IsWhyNotAdded, change_in}
use Rattle.mp4_remux.specs.Moved.{IsMovedAt, IsOfOffsets, IsWhyNotMoved, as_it_is, entry_size, is_wide}
use Rattle.mp4_remux.specs.Moved.{level_of}
use Rattle.mp4_remux.specs.Moved.{moved_payload, of_offsets, on_the_way, wide_header}
use Rattle.mp4_remux.specs.Moved.{no_box as none_moved}
use Rattle.mp4_remux.specs.declared.movie_box.MovieEdit.{MovieEdit}
use Rattle.mp4_remux.specs.declared.movie_box.Step.{Step}
use Rattle.mp4_remux.specs.declared.movie_box.Step.TheVariants.{Enter, Keep, Offsets}
use Rattle.mp4_remux.proofs.Editing.{same_some, sized_is}
use Rattle.mp4_remux.proofs.Growing.{first_long}
use Rattle.mp4_remux.proofs.Offsets.{length-wide_header}

-- What becomes of a box at a level, where nothing but chunk offsets is other: it is entered on the way to the tables,
-- a table of chunk offsets is moved, and every other box stays.
abbrev pub IsChangeOf : ℕ → BoxType → Change → Type 0
IsChangeOf level name entered = level_of name ≡ Some level
IsChangeOf level name (moved size) = (level ≡ 5) × (entry_size name ≡ Some size)
IsChangeOf level name kept = (level_of name ≡ Some level → ⊥) × (level ≡ 5 → entry_size name ≡ None)
IsChangeOf level name _ = ⊥

other_level : (k level : ℕ) → (k ≡ level → ⊥) → Some k ≡ Some level → ⊥
other_level k level other is = let same : k ≡ level = cc in other same

module _ (edit : MovieEdit) (of : IsOfOffsets edit) where
  -- none of the tracks has tables that were made
  none_made : (track : ℕ) → made_at edit track ≡ None
  none_made track = rw of.tracks refl

  in_file : (name : BoxType) (track : ℕ) → IsChangeOf 0 name (change_of edit 0 name track)
  unfolding change_of
  in_file MoovBox track = refl
  in_file _ track = (λ e. absurd cc, λ e. absurd cc)

  in_movie : (name : BoxType) (track : ℕ) → IsChangeOf 1 name (change_of edit 1 name track)
  unfolding change_of
  in_movie MvhdBox track = rw of.duration (λ e. absurd cc, λ e. absurd cc)
  in_movie MvexBox track = rw of.gathered (λ e. absurd cc, λ e. absurd cc)
  in_movie TrakBox track = rw of.tracks refl
  in_movie _ track = (λ e. absurd cc, λ e. absurd cc)

  in_track : (name : BoxType) (track : ℕ) → IsChangeOf 2 name (change_of edit 2 name track)
  unfolding change_of
  in_track MdiaBox track = refl
  in_track TkhdBox track = rw of.tracks (λ e. absurd cc, λ e. absurd cc)
  in_track EdtsBox track = rw of.tracks (λ e. absurd cc, λ e. absurd cc)
  in_track _ track = rw of.ids (λ e. absurd cc, λ e. absurd cc)

  in_media : (name : BoxType) (track : ℕ) → IsChangeOf 3 name (change_of edit 3 name track)
  unfolding change_of
  in_media MinfBox track = refl
  in_media MdhdBox track = rw of.tracks (λ e. absurd cc, λ e. absurd cc)
  in_media _ track = (λ e. absurd cc, λ e. absurd cc)

  in_minf : (name : BoxType) (track : ℕ) → IsChangeOf 4 name (change_of edit 4 name track)
  unfolding change_of
  in_minf StblBox track = refl
  in_minf _ track = (λ e. absurd cc, λ e. absurd cc)

  in_tables : (name : BoxType) (track : ℕ) → IsChangeOf 5 name (change_of edit 5 name track)
  unfolding change_of
  in_tables StcoBox track = rw of.tracks (refl, refl)
  in_tables Co64Box track = rw of.tracks (refl, refl)
  in_tables _ track = rw of.tracks (λ e. absurd cc, λ e. refl)

  deeper : (level : ℕ) (name : BoxType) → level_of name ≡ Some (suc (suc (suc (suc (suc (suc level)))))) → ⊥
  deeper level MoovBox is = other_level 0 (suc (suc (suc (suc (suc (suc level)))))) (λ e. omega (arith, e)) is
  deeper level TrakBox is = other_level 1 (suc (suc (suc (suc (suc (suc level)))))) (λ e. omega (arith, e)) is
  deeper level MdiaBox is = other_level 2 (suc (suc (suc (suc (suc (suc level)))))) (λ e. omega (arith, e)) is
  deeper level MinfBox is = other_level 3 (suc (suc (suc (suc (suc (suc level)))))) (λ e. omega (arith, e)) is
  deeper level StblBox is = other_level 4 (suc (suc (suc (suc (suc (suc level)))))) (λ e. omega (arith, e)) is
  deeper level _ is = absurd cc

  pub offsets_change : (level : ℕ) (name : BoxType) (track : ℕ)
      → IsChangeOf level name (change_of edit level name track)
  unfolding change_of
  offsets_change zero name track = in_file name track
  offsets_change (suc zero) name track = in_movie name track
  offsets_change (suc (suc zero)) name track = in_track name track
  offsets_change (suc (suc (suc zero))) name track = in_media name track
  offsets_change (suc (suc (suc (suc zero)))) name track = in_minf name track
  offsets_change (suc (suc (suc (suc (suc zero))))) name track = in_tables name track
  offsets_change (suc (suc (suc (suc (suc (suc level)))))) name track =
      (deeper level name, λ e. absurd (omega (arith, e)))

  module _ (to : ℕ → ℕ) (base : ℕ) where
    -- a box that stays, or whose offsets are moved
    box_moved : (level : ℕ) (before after rest rest_after : List ℕ) (name : BoxType) (header payload made : List ℕ)
        (change : Change) → IsFirstBox before name header payload rest → IsChangeOf level name change
        → changed_box to base change header payload ≡ Some made → IsMovedAt to level rest rest_after
        → after ≡ made ++ rest_after → IsMovedAt to level before after
    unfolding changed_box
    box_moved level before after rest ra name header payload made kept first (no_way, no_table) some others is =
        as_it_is level before after rest ra name header payload first no_way no_table others
        (is ∙ ap (λ (xs : List ℕ). xs ++ ra) (same_some (header ++ payload) made some)
        ∙ append_assoc header payload ra)
    box_moved level before after rest ra name header payload made (moved size) first (five, table) some others is =
        let wide = is_wide to size payload in
        let ends = sized_is (wide_header wide header) (moved_payload to size payload) made some in
        let same : length (wide_header wide header) ≡ length header =
        length-wide_header wide header (first_long before name header payload rest first) in
        of_offsets level before after rest ra name header payload size first five table
        (subst (λ k. k + length (moved_payload to size payload) < 256 ^ (if nat_lt k 16 then 4 else 8)) same ends.0)
        others (is ∙ ap (λ (xs : List ℕ). xs ++ ra) ends.1)
    box_moved level before after rest ra name header payload made entered first what some others is = absurd cc
    box_moved level before after rest ra name header payload made left_out first what some others is = absurd what
    box_moved level before after rest ra name header payload made (timed m d) first what some others is = absurd what
    box_moved level before after rest ra name header payload made (shown l) first what some others is = absurd what
    box_moved level before after rest ra name header payload made (referring i) first what some others is = absurd what
    box_moved level before after rest ra name header payload made (tabled t) first what some others is = absurd what

    pub edited_is_moved : (level track : ℕ) (xs ys : List ℕ) → IsEditedAt edit to base level track xs ys
        → IsMovedAt to level xs ys
    edited_is_moved level track xs ys (no_box l t bytes none) = none_moved level xs none
    edited_is_moved level track xs ys (inside l t before after r ra n h p pa own is m room o e) =
        on_the_way level xs ys r ra n h p pa own
        (subst (λ (c : Change). IsChangeOf level n c) is (offsets_change level n track))
        (edited_is_moved (level + 1) track p pa m) room (edited_is_moved level _ r ra o) e
    edited_is_moved level track xs ys (changed l t before after r ra n h p ba own is o e) =
        box_moved level xs ys r ra n h p ba (change_of edit level n track) own (offsets_change level n track) is
        (edited_is_moved level _ r ra o) e

  -- why a box isn't added, where its step is that of its change
  pub large_step : (level : ℕ) (name : BoxType) (step : Step) (bytes : List ℕ) (e : Error)
      → IsChangeOf level name (change_in step) → (step ≡ Enter → ⊥) → IsWhyNotAdded step bytes e
      → IsWhyNotMoved bytes e
  large_step level name Enter bytes e is never why = absurd (never refl)
  large_step level name Keep bytes e is never why = why
  large_step level name (Offsets width) bytes e is never why = why
  large_step level name _ bytes e is never why = absurd is
