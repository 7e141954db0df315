-- What becomes of the tracks of a movie, one after the other.
use Rattle.std.proofs.Common.{◌≡◌, ◌∙◌, ℕ, suc, ◌+◌, ◌≤◌, ◌<◌, ◌++◌, ◌==◌, max, nat_lt, Bool, true, false, inr}
use Rattle.std.proofs.Common.{List, [], ◌∷◌, length, drop, append_assoc, Some, refl, sym, ap, subst, arith}
use Rattle.std.proofs.lemmas.Bool.{eqb-true}
use Rattle.std.proofs.lemmas.List.{append-nil, length-map}
use Rattle.std.proofs.lemmas.List.Sorted.{length_permutation, list_any-IsPermutation}
use Rattle.std.specs.List.Sorted.{IsPermutation}
use Rattle.std.specs.Prelude.{slice_get, slice_index_or}
use Rattle.mp4_boxes.specs.declared.trak.TrakBox.{TrakBox}
use Rattle.mp4_media.specs.FileBoxes.{OpenedFile}
use Rattle.mp4_remux.specs.Caused.{CausedBy}
use Rattle.mp4_remux.specs.Named.{IsWhy}
use Rattle.mp4_remux.specs.PlannedRebuilt.{AreTrackEdits, IsTrackEdit, IsUnmade, longest_after, time_after}
use Rattle.mp4_remux.specs.References.{contains_id, leaves_some}
use Rattle.mp4_remux.specs.Remuxed.{ids_of}
use Rattle.mp4_remux.specs.TrackTables.{IsWhyNoTables}
use Rattle.mp4_remux.specs.declared.error.RemuxError.{RemuxError}
use Rattle.mp4_remux.specs.declared.layout_error.LayoutError.{LayoutError}
use Rattle.mp4_remux.specs.declared.movie_box.TrackEdit.{TrackEdit}
use Rattle.mp4_remux.specs.declared.movie_box.TrackEdit.TheVariants.{Dropped, Moved, Made}
use Rattle.mp4_remux.proofs.Causes.{caused_as}
use Rattle.mp4_remux.proofs.Counting.{no_samples}
use Rattle.mp4_remux.proofs.Naming.{why_among}
use Rattle.mp4_remux.proofs.Numbered.{drop_all, drop_next, got_within}

-- THE LONGEST

pub longest_more : (ts : List TrakBox) (es : List TrackEdit) (i most next : ℕ) (t : TrakBox) (e : TrackEdit)
    → i < length ts → i < length es → max most (longest_after (drop i ts) (drop i es)) ≡ longest_after ts es
    → next ≡ max (time_after (slice_index_or ts i t) (slice_index_or es i e)) most
    → max next (longest_after (drop (i + 1) ts) (drop (i + 1) es)) ≡ longest_after ts es
unfolding longest_after
longest_more ts es i most next t e lt too upto is =
    let one : drop i ts ≡ slice_index_or ts i t ∷ drop (i + 1) ts = drop_next ts i (i + 1) t lt (omega arith) in
    let two : drop i es ≡ slice_index_or es i e ∷ drop (i + 1) es = drop_next es i (i + 1) e too (omega arith) in
    let both = rw (one, two) at upto in
    omega (arith, both, is)

none_longer : (ts : List TrakBox) → longest_after ts [] ≡ 0
unfolding longest_after
none_longer [] = refl
none_longer (t ∷ ts) = refl

no_track : (es : List TrackEdit) → longest_after [] es ≡ 0
unfolding longest_after
no_track es = refl

pub longest_of_all : (ts : List TrakBox) (es : List TrackEdit) (i most : ℕ)
    → max most (longest_after (drop i ts) (drop i es)) ≡ longest_after ts es → longest_after (drop i ts) (drop i es) ≡ 0
    → most ≡ longest_after ts es
longest_of_all ts es i most upto none = omega (arith, upto, none)

pub past_tracks : (ts : List TrakBox) (es : List TrackEdit) (i : ℕ) → length ts ≤ i
    → longest_after (drop i ts) (drop i es) ≡ 0
past_tracks ts es i le =
    ap (λ (xs : List TrakBox). longest_after xs (drop i es)) (drop_all ts i le) ∙ no_track (drop i es)

pub past_edits : (ts : List TrakBox) (es : List TrackEdit) (i : ℕ) → length es ≤ i
    → longest_after (drop i ts) (drop i es) ≡ 0
past_edits ts es i le =
    ap (λ (xs : List TrackEdit). longest_after (drop i ts) xs) (drop_all es i le) ∙ none_longer (drop i ts)

-- EACH TRACK

module _ (opened : OpenedFile) (to : ℕ → ℕ) (ids : List ℕ) where
  -- those so far are the tracks' edits, whatever is right for the rest
  abbrev pub AreUntil : List TrakBox → List TrackEdit → ℕ → Type 0
  AreUntil ts es i =
      (rest : List TrackEdit) → AreTrackEdits opened to ids (drop i ts) rest
      → AreTrackEdits opened to ids ts (es ++ rest)

  pub one_edit_more : (ts : List TrakBox) (es next : List TrackEdit) (i : ℕ) (t : TrakBox) (e : TrackEdit)
      → i < length ts → AreUntil ts es i → next ≡ es ++ e ∷ [] → IsTrackEdit opened to ids (slice_index_or ts i t) e
      → AreUntil ts next (i + 1)
  unfolding AreTrackEdits
  one_edit_more ts es next i t e lt upto pushed is rest are =
      let one : drop i ts ≡ slice_index_or ts i t ∷ drop (i + 1) ts = drop_next ts i (i + 1) t lt (omega arith) in
      let all = upto (e ∷ rest) (subst (λ (xs : List TrakBox). AreTrackEdits opened to ids xs (e ∷ rest)) (sym one)
      (is, are)) in
      subst (λ (xs : List TrackEdit). AreTrackEdits opened to ids ts xs)
      (sym (ap (λ (xs : List TrackEdit). xs ++ rest) pushed ∙ append_assoc es (e ∷ []) rest)) all

  pub all_edits : (ts : List TrakBox) (es : List TrackEdit) (i : ℕ) → length ts ≤ i → AreUntil ts es i
      → AreTrackEdits opened to ids ts es
  unfolding AreTrackEdits
  all_edits ts es i le upto =
      subst (λ (xs : List TrackEdit). AreTrackEdits opened to ids ts xs) (append-nil es)
      (upto [] (subst (λ (xs : List TrakBox). AreTrackEdits opened to ids xs []) (sym (drop_all ts i le)) tt))

-- the same tracks in another order
pub edits_by : (opened : OpenedFile) (to : ℕ → ℕ) (ids sorted : List ℕ) → IsPermutation ids sorted
    → (ts : List TrakBox) (es : List TrackEdit) → AreTrackEdits opened to sorted ts es
    → AreTrackEdits opened to ids ts es
unfolding AreTrackEdits
edits_by opened to ids sorted same [] [] are = are
edits_by opened to ids sorted same [] (e ∷ es) are = are
edits_by opened to ids sorted same (t ∷ ts) [] are = are
edits_by opened to ids sorted same (t ∷ ts) (e ∷ es) are =
    (by e are.0, edits_by opened to ids sorted same ts es are.1)
  where
    among : contains_id ids t.tkhd.track_id ≡ contains_id sorted t.tkhd.track_id
    among = list_any-IsPermutation (λ k. k == t.tkhd.track_id) ids sorted same

    by : (e : TrackEdit) → IsTrackEdit opened to sorted t e → IsTrackEdit opened to ids t e
    by Dropped is = among ∙ is
    by Moved is = (among ∙ is.0, is.1)
    by (Made m) is = (among ∙ is.0, is.1)

-- WHERE A TRACK IS

-- an id that is among others is at a number of theirs
pub record IsAt (ids : List ℕ) (id : ℕ) : Type 0 where
  pub number : ℕ
  pub is : slice_get ids number ≡ Some id

at_first : (x id : ℕ) (xs : List ℕ) → (contains_id xs id ≡ true → IsAt xs id) → contains_id (x ∷ xs) id ≡ true
    → IsAt (x ∷ xs) id
at_first x id xs at is = by (x == id) refl
  where
    by : (same : Bool) → (x == id) ≡ same → IsAt (x ∷ xs) id
    by true same = record { number = 0; is = ap (λ (n : ℕ). Some n) (eqb-true x id same) }
    by false other = let later = at (rw other at is) in record { number = suc later.number; is = later.is }

at_some : (ids : List ℕ) (id : ℕ) → contains_id ids id ≡ true → IsAt ids id
at_some [] id is = absurd cc
at_some (x ∷ xs) id is = at_first x id xs (at_some xs id) is

-- also where they are in another order
pub at_any : (ids sorted : List ℕ) (id : ℕ) → IsPermutation ids sorted → contains_id sorted id ≡ true → IsAt ids id
at_any ids sorted id same is = at_some ids id (list_any-IsPermutation (λ k. k == id) ids sorted same ∙ is)

-- WHY NONE ARE MADE

-- why no tables are made of one track is why none are of several
pub unmade_among : (opened : OpenedFile) (ids sorted : List ℕ) (to : ℕ → ℕ) (id : ℕ) (e : RemuxError)
    → IsPermutation ids sorted → contains_id sorted id ≡ true
    → CausedBy (IsWhyNoTables opened id to) ⊥ e → CausedBy (IsUnmade opened ids to) ⊥ e
unmade_among opened ids sorted to id e same kept why =
    let at = at_any ids sorted id same kept in
    caused_as (IsWhyNoTables opened id to) (IsUnmade opened ids to) ⊥ ⊥
    (λ error no. inr (record { id = id; number = at.number; is = at.is; why = no })) (λ no. no) e why

pub why_of_one : (movie : OpenedFile) (ids sorted : List ℕ) (id most : ℕ) (e : LayoutError) → IsPermutation ids sorted
    → contains_id sorted id ≡ true → IsWhy (id ∷ []) most movie e → IsWhy ids most movie e
why_of_one movie ids sorted id most e same kept why =
    let at = at_any ids sorted id same kept in
    why_among id most most ids movie at.number 0 at.is
    (no_samples movie ids at.number (omega (arith, got_within ids at.number id at.is))) (omega arith) e why

-- THE IDS THAT ARE LEFT

-- as many are kept as are sorted
pub some_left : (opened : OpenedFile) (ids sorted : List ℕ) → IsPermutation ids sorted
    → nat_lt (length sorted) (length opened.moov.traks) ≡ leaves_some (ids_of opened.moov) ids
some_left opened ids sorted same =
    rw (length-map opened.moov.traks (λ (t : TrakBox). t.tkhd.track_id), length_permutation ids sorted same) refl
