-- The boxes of a file, walked over one after the other.
use Rattle.std.proofs.Common.{◌≡◌, ℕ, zero, suc, ◌+◌, ◌-◌, ◌≤◌, ◌<◌, Bool, true, false, cond, ltb, leb, List, [], ◌∷◌}
use Rattle.std.proofs.Common.{◌++◌, Option, Some, None, Result, Ok, Err, refl, sym, ap, ◌∙◌, append_assoc, arith}
use Rattle.std.proofs.lemmas.Bool.{false≢true, leb-false}
use Rattle.std.proofs.lemmas.List.{append-nil}
use Rattle.mp4_codec.specs.declared.box_type.BoxType.TheVariants.{FtypBox as ftyp, MoovBox as moov}
use Rattle.mp4_codec.specs.Cause.{Cause, end_of_data, box_not_found, ◌>>=◌}
use Rattle.mp4_codec.specs.Cursor.{Cursor, header_at}
use Rattle.mp4_codec.specs.Steps.{ok_is}
use Rattle.mp4_codec.specs.Children.{last}
use Rattle.mp4_leaf.specs.declared.ftyp.FtypBox.{FtypBox}
use Rattle.mp4_boxes.specs.declared.moov.MoovBox.{MoovBox}
use Rattle.mp4_media.specs.FileBoxes.{FileBox}
use Rattle.mp4_media.specs.declared.opening.TopLevelBoxes.{TopLevelBoxes}
use Rattle.mp4_media.specs.FileBoxes.{ftyp_from, moov_from, moof_from, moof_place_from, emsg_from, ftyps_in, moovs_in}
use Rattle.mp4_media.specs.FileBoxes.{moofs_in}
use Rattle.mp4_media.specs.MovieTracks.{id_fault}
use Rattle.mp4_media.specs.Walk.{box_after_header, next_box_at, file_boxes_at, found_of, with_box, and_found, found_at}
use Rattle.mp4_media.specs.Walk.{opened_with, opened_at}
use Rattle.mp4_media.proofs.Contents.{last-later, filter_map-and_one}

-- these boxes, and then those that are still read
abbrev pub after_boxes : List FileBox → Result (List FileBox × ℕ) Cause → Result (List FileBox × ℕ) Cause
after_boxes done r = ◌>>=◌ {B = List FileBox × ℕ} r (λ more. Ok (done ++ more.0, more.1))

found-push : (boxes : List FileBox) (b : FileBox) → with_box (found_of boxes) b ≡ found_of (boxes ++ b ∷ [])
found-push boxes b =
    rw (
      last-later (λ (x : FileBox). ftyp_from x.content) boxes b,
      last-later (λ (x : FileBox). moov_from x.content) boxes b,
      filter_map-and_one (λ (x : FileBox). moof_from x.content) boxes b,
      filter_map-and_one moof_place_from boxes b,
      filter_map-and_one (λ (x : FileBox). emsg_from x.content) boxes b,
    ) refl

-- The boxes of a file so far, what was found in them, and the place after them, where the walk goes on with so many
-- steps.
pub record Scanning (size : ℕ) (start : Cursor) (found : TopLevelBoxes) (place : Cursor) : Type 0 where
  pub done : List FileBox
  pub given : found ≡ found_of done
  pub steps : ℕ
  pub enough : size ≤ steps + place.position
  pub is : file_boxes_at size size start ≡ after_boxes done (file_boxes_at steps size place)

pub starts_with : (r : Result (List FileBox × ℕ) Cause) → r ≡ after_boxes [] r
starts_with (Ok x) = refl
starts_with (Err c) = refl

pub scan-starts : (size : ℕ) (start : Cursor) (found : TopLevelBoxes) → found ≡ found_of []
    → Scanning size start found start
scan-starts size start found none = record {
  done = [];
  given = none;
  steps = size;
  enough = omega arith;
  is = starts_with (file_boxes_at size size start);
}

pub regrouped : (done : List FileBox) (b : FileBox) (r : Result (List FileBox × ℕ) Cause)
    → after_boxes done (after_boxes (b ∷ []) r) ≡ after_boxes (done ++ b ∷ []) r
regrouped done b (Ok x) = ap (λ (bs : List FileBox). Ok (bs, x.1)) (sym (append_assoc done (b ∷ []) x.0))
regrouped done b (Err c) = refl

module _ (size : ℕ) (start place : Cursor) (found : TopLevelBoxes) where
  stepped : (b : FileBox) (end : Cursor) (after : TopLevelBoxes) → next_box_at size place ≡ Ok (Some b, end)
      → place.position < size → place.position < end.position
      → after ≡ with_box found b → (done : List FileBox) → found ≡ found_of done
      → (steps : ℕ) → size ≤ steps + place.position
      → file_boxes_at size size start ≡ after_boxes done (file_boxes_at steps size place)
      → Scanning size start after end
  unfolding file_boxes_at
  stepped b end after next below onward added done given zero enough is = absurd (omega arith)
  stepped b end after next below onward added done given (suc n) enough is = record {
    done = done ++ b ∷ [];
    given = added ∙ ap (λ f. with_box f b) given ∙ found-push done b;
    steps = n;
    enough = omega arith;
    is = is ∙ rw next (regrouped done b (file_boxes_at n size end));
  }

  -- one box more
  pub scan-takes : (b : FileBox) (end : Cursor) (after : TopLevelBoxes)
      → next_box_at size place ≡ Ok (Some b, end)
      → place.position < size → place.position < end.position
      → after ≡ with_box found b → Scanning size start found place → Scanning size start after end
  scan-takes b end after next below onward added w =
      stepped b end after next below onward added w.done w.given w.steps w.enough w.is

  within : (b : Bool) (r : Result (Option FileBox × Cursor) Cause) (c : Cause) → (b ≡ false → place.position < size)
      → cond b (Ok (None, place)) r ≡ Err c → place.position < size
  within true r c h e = absurd cc
  within false r c h e = h refl

  -- only below the size is a box refused
  below : (c : Cause) → next_box_at size place ≡ Err c → place.position < size
  unfolding next_box_at
  below c e =
      within (leb size place.position)
      (cond (ltb size (place.position + 8)) (Err end_of_data)
      (header_at place >>= λ x. box_after_header size place x.0 x.1)) c (leb-false size place.position) e

  refused : (c : Cause) → next_box_at size place ≡ Err c → place.position < size → (done : List FileBox) (steps : ℕ)
      → size ≤ steps + place.position
      → file_boxes_at size size start ≡ after_boxes done (file_boxes_at steps size place)
      → file_boxes_at size size start ≡ Err c
  unfolding file_boxes_at
  refused c next below done zero enough is = absurd (omega arith)
  refused c next below done (suc n) enough is = is ∙ rw next refl

  -- a box that is refused
  pub scan-refuses : (c : Cause) → next_box_at size place ≡ Err c → Scanning size start found place
      → file_boxes_at size size start ≡ Err c
  scan-refuses c next w = refused c next (below c next) w.done w.steps w.enough w.is

  ended : (end : Cursor) → next_box_at size place ≡ Ok (None, end) → end.position ≡ place.position
      → (done : List FileBox) (steps : ℕ)
      → file_boxes_at size size start ≡ after_boxes done (file_boxes_at steps size place)
      → file_boxes_at size size start ≡ Ok (done, place.position)
  unfolding file_boxes_at
  ended end next same done zero is = is ∙ ap (λ (bs : List FileBox). Ok (bs, place.position)) (append-nil done)
  ended end next same done (suc n) is =
      is ∙ rw (next, same) (ap (λ (bs : List FileBox). Ok (bs, place.position)) (append-nil done))

  -- no box is left
  pub scan-ends : (end : Cursor) → next_box_at size place ≡ Ok (None, end) → end.position ≡ place.position
      → (w : Scanning size start found place) → file_boxes_at size size start ≡ Ok (w.done, place.position)
  scan-ends end next same w = ended end next same w.done w.steps w.is

-- What the next box adds to what was found.
module _ (found after : TopLevelBoxes) (end : Cursor) where
  pub box_added : (r : Result (Option FileBox × Cursor) Cause) → (r >>= and_found found) ≡ Ok (true, after, end)
      → (b : FileBox) × (r ≡ Ok (Some b, end)) × (after ≡ with_box found b)
  box_added (Ok (Some b, place)) e =
      let same = ok_is (true, with_box found b, place) (true, after, end) e in (
        b,
        ap (λ (t : Bool × TopLevelBoxes × Cursor). Ok (Some b, t.2)) same,
        ap (λ (t : Bool × TopLevelBoxes × Cursor). t.1) (sym same),
      )
  box_added (Ok (None, place)) e =
      let same = ok_is (false, found, place) (true, after, end) e in
      absurd (false≢true (ap (λ (t : Bool × TopLevelBoxes × Cursor). t.0) same))
  box_added (Err c) e = absurd cc

  pub none_added : (r : Result (Option FileBox × Cursor) Cause) → (r >>= and_found found) ≡ Ok (false, after, end)
      → (r ≡ Ok (None, end)) × (after ≡ found)
  none_added (Ok (Some b, place)) e =
      let same = ok_is (true, with_box found b, place) (false, after, end) e in
      absurd (false≢true (sym (ap (λ (t : Bool × TopLevelBoxes × Cursor). t.0) same)))
  none_added (Ok (None, place)) e =
      let same = ok_is (false, found, place) (false, after, end) e in (
        ap (λ (t : Bool × TopLevelBoxes × Cursor). Ok (None, t.2)) same,
        ap (λ (t : Bool × TopLevelBoxes × Cursor). t.1) (sym same),
      )
  none_added (Err c) e = absurd cc

pub refused_before : (found : TopLevelBoxes) (c : Cause) (r : Result (Option FileBox × Cursor) Cause)
    → (r >>= and_found found) ≡ Err c → r ≡ Err c
refused_before found c (Ok (Some b, place)) e = absurd cc
refused_before found c (Ok (None, place)) e = absurd cc
refused_before found c (Err d) e = cc

-- a file whose boxes are not all read does not open
pub found-refused : (size : ℕ) (start : Cursor) (c : Cause) → file_boxes_at size size start ≡ Err c
    → found_at size start ≡ Err c
unfolding found_at
found-refused size start c e = rw e refl

pub opened-refused : (size : ℕ) (start : Cursor) (c : Cause) → file_boxes_at size size start ≡ Err c
    → opened_at size start ≡ Err c
unfolding opened_at
opened-refused size start c e = rw (found-refused size start c e) refl

module _ (size : ℕ) (start : Cursor) (boxes : List FileBox) (end : ℕ)
    (read : file_boxes_at size size start ≡ Ok (boxes, end)) where
  pub found-all : found_at size start ≡ Ok (found_of boxes, end)
  unfolding found_at
  found-all = rw read refl

  pub opened-no_ftyp : last (ftyps_in boxes) ≡ None → opened_at size start ≡ Err (box_not_found ftyp)
  unfolding opened_at
  opened-no_ftyp none = rw (found-all, none) refl

  pub opened-no_moov : (f : FtypBox) → last (ftyps_in boxes) ≡ Some f → last (moovs_in boxes) ≡ None
      → opened_at size start ≡ Err (box_not_found moov)
  unfolding opened_at
  opened-no_moov f some none = rw (found-all, some, none) refl

  module _ (f : FtypBox) (m : MoovBox) (some : last (ftyps_in boxes) ≡ Some f) (some' : last (moovs_in boxes) ≡ Some m)
    where
      pub opened-wrong_ids : (c : Cause) → id_fault m (moofs_in boxes) ≡ Some c → opened_at size start ≡ Err c
      unfolding opened_at
      opened-wrong_ids c fault = rw (found-all, some, some', fault) refl

      pub opened-all : id_fault m (moofs_in boxes) ≡ None
          → opened_at size start ≡ Ok (opened_with (found_of boxes) f m (end - start.position))
      unfolding opened_at
      opened-all none = rw (found-all, some, some', none) refl
