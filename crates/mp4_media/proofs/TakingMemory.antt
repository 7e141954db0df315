-- Where memory may be requested when a file is opened: at a box that is read, after boxes without a fault.
use Rattle.std.proofs.Common.{◌≡◌, ◌∙◌, ◌⊎◌, inl, inr, ℕ, ◌+◌, ◌-◌, ◌≤◌, ◌<◌, List, [], ◌∷◌, ◌++◌, length, Option, Some}
use Rattle.std.proofs.Common.{None, Ok, Err}
use Rattle.std.proofs.Common.{refl, sym, ap, subst, arith}
use Rattle.mp4_codec.specs.Cause.{◌>>=◌}
use Rattle.mp4_codec.specs.Cursor.{Cursor, here, header_at}
use Rattle.mp4_codec.specs.Steps.{ok_is}
use Rattle.mp4_codec.specs.declared.header.BoxHeader.{BoxHeader}
use Rattle.mp4_media.specs.declared.opening.TopLevelBoxes.{TopLevelBoxes}
use Rattle.mp4_media.specs.FileBoxes.{FileBox, IsRead, moovs_in}
use Rattle.mp4_media.specs.FileGrammar.{Holds, read, skipped, IsFileBox, AreFileBoxes}
use Rattle.mp4_media.specs.FileGrammar.{IsWholeToRead, MayTakeMemory}
use Rattle.mp4_media.specs.Walk.{next_box_at, found_at, found_of}
use Rattle.mp4_media.proofs.Contents.{has_meaning}
use Rattle.mp4_media.proofs.Grammar.{Stands, ends, box, fault, stands, is_next, is_last, is_refused, header_read}
use Rattle.mp4_media.proofs.Grammar.{Whole, all, broken, whole, all-read, walked, walked-fault}

-- boxes without a fault from a place to another
abbrev pub AreBoxesTo : ℕ → List ℕ → ℕ → ℕ → Type 0
AreBoxesTo size bytes from to = (boxes : List FileBox) × AreFileBoxes size bytes from boxes to

-- none at first
pub no_boxes : (size : ℕ) (bytes : List ℕ) (place : ℕ) → AreBoxesTo size bytes place place
unfolding AreFileBoxes
no_boxes size bytes place = ([], refl)

-- the next box that the walk finds is one of the grammar
next_is_box : (size : ℕ) (bytes : List ℕ) (place next : ℕ) (b : FileBox)
    → next_box_at size (here bytes place) ≡ Ok (Some b, here bytes next) → IsFileBox size bytes place next b
next_is_box size bytes place next b e = by (stands size bytes place)
  where
    same : (x : Option FileBox) (end : Cursor) → next_box_at size (here bytes place) ≡ Ok (x, end)
        → (x ≡ Some b) × (end ≡ here bytes next)
    same x end f =
        let both = ok_is (x, end) (Some b, here bytes next) (sym f ∙ e) in (
          ap (λ (y : Option FileBox × Cursor). y.0) both,
          ap (λ (y : Option FileBox × Cursor). y.1) both,
        )

    by : Stands size bytes place → IsFileBox size bytes place next b
    by (ends closed) =
        let no : None ≡ Some b = (same None (here bytes place) (is_last size bytes place closed)).0 in absurd cc
    by (fault c why) = let no = sym (is_refused size bytes place c why) ∙ e in absurd cc
    by (box found end w) =
        let is = same (Some found) (here bytes end) (is_next size bytes place end found w) in
        let some : Some found ≡ Some b = is.0 in
        let same_box : found ≡ b = cc in
        subst (λ (x : FileBox). IsFileBox size bytes place next x) same_box
        (subst (λ (p : Cursor). IsFileBox size bytes place p.position found) is.1 w)

added : (size : ℕ) (bytes : List ℕ) (boxes : List FileBox) (from place next : ℕ) (b : FileBox)
    → AreFileBoxes size bytes from boxes place → IsFileBox size bytes place next b
    → AreFileBoxes size bytes from (boxes ++ b ∷ []) next
unfolding AreFileBoxes
added size bytes [] from place next b are w =
    (next, subst (λ (n : ℕ). IsFileBox size bytes n next b) are w, refl)
added size bytes (first ∷ others) from place next b are w =
    (are.0, are.1, added size bytes others are.0 place next b are.2 w)

-- one box more
pub box_more : (size : ℕ) (bytes : List ℕ) (from place next : ℕ) (b : FileBox) → AreBoxesTo size bytes from place
    → next_box_at size (here bytes place) ≡ Ok (Some b, here bytes next) → AreBoxesTo size bytes from next
box_more size bytes from place next b before e =
    (before.0 ++ b ∷ [], added size bytes before.0 from place next b before.1 (next_is_box size bytes place next b e))

-- a box that is read, by its header
pub whole_to_read : (size : ℕ) (bytes : List ℕ) (place : ℕ) (h : BoxHeader) (from : ℕ) → place + 8 ≤ size
    → header_at (here bytes place) ≡ Ok (h, here bytes from) → (h.size ≡ 0) ⊎ (8 ≤ h.size) → (h.size ≡ 0 → ⊥)
    → h.size ≤ size → IsRead h.name → from + (h.size - 8) ≤ length bytes → IsWholeToRead size bytes place
whole_to_read size bytes place h from room e (inl zero) some fits is_read inside = absurd (some zero)
whole_to_read size bytes place h from room e (inr large) some fits is_read inside =
    let to : ℕ = from + (h.size - 8) in
    let same : h.size ≡ to - from + 8 = omega (arith, large) in
    record {
      name = h.name;
      from = from;
      to = to;
      begins = record {
        room = room;
        head = e ∙ ap (λ (n : ℕ). Ok (record { name = h.name; size = n }, here bytes from)) same;
        order = omega arith;
      };
      fits = omega (arith, same, fits);
      is_read = is_read;
      inside = inside;
    }

-- memory may be requested at such a box
pub taken_there : (size : ℕ) (bytes : List ℕ) (from place : ℕ) → AreBoxesTo size bytes from place
    → IsWholeToRead size bytes place → MayTakeMemory size (here bytes from)
taken_there size bytes from place before b = record {
  boxes = before.0;
  place = place;
  are = before.1;
  box = b;
}

-- one box before
after_one : (size : ℕ) (bytes : List ℕ) (place next : ℕ) (b : FileBox) → IsFileBox size bytes place next b
    → MayTakeMemory size (here bytes next) → MayTakeMemory size (here bytes place)
unfolding AreFileBoxes
after_one size bytes place next b w m = record {
  boxes = b ∷ m.boxes;
  place = m.place;
  are = (next, w, m.are);
  box = m.box;
}

-- among boxes with a movie there is one that is read
moov_among : (size : ℕ) (bytes : List ℕ) (boxes : List FileBox) (place end : ℕ)
    → AreFileBoxes size bytes place boxes end → (moovs_in boxes ≡ [] → ⊥) → MayTakeMemory size (here bytes place)
unfolding AreFileBoxes
moov_among size bytes [] place end are some = absurd (some refl)
moov_among size bytes (b ∷ bs) place end are some =
    by (λ some_left. moov_among size bytes bs are.0 end are.2 some_left) are.1.holds
  where
    by : ((moovs_in bs ≡ [] → ⊥) → MayTakeMemory size (here bytes are.0))
        → Holds bytes are.1.name are.1.from are.0 b.content → MayTakeMemory size (here bytes place)
    by others (read value is inside e) = taken_there size bytes place place (no_boxes size bytes place) (record {
      name = are.1.name;
      from = are.1.from;
      to = are.0;
      begins = are.1.begins;
      fits = are.1.fits;
      is_read = has_meaning are.1.name value is;
      inside = inside;
    })
    by others (skipped is small e) = after_one size bytes place are.0 b are.1 (others (λ none. some (rw e none)))

-- where a movie was found, a box was read
pub moov_was_read : (size : ℕ) (bytes : List ℕ) (place : ℕ) (found : TopLevelBoxes) (end : ℕ)
    → found_at size (here bytes place) ≡ Ok (found, end) → (found.moov ≡ None → ⊥)
    → MayTakeMemory size (here bytes place)
unfolding found_at
moov_was_read size bytes place found end e some = by (whole size size bytes place (omega arith))
  where
    by : Whole size bytes place → MayTakeMemory size (here bytes place)
    by (broken boxes last_place c are why) =
        let no =
        sym (ap (λ r. r >>= λ (x : List FileBox × ℕ). Ok (found_of x.0, x.1))
        (walked boxes size size bytes place last_place (Err c) (omega arith) are
        (walked-fault size bytes last_place c why))) ∙ e in
        absurd cc
    by (all boxes last_place are closed) =
        let same =
        sym (ap (λ r. r >>= λ (x : List FileBox × ℕ). Ok (found_of x.0, x.1))
        (all-read size (here bytes place) boxes last_place are closed)) ∙ e in
        let is : found_of boxes ≡ found =
        ap (λ (x : TopLevelBoxes × ℕ). x.0) (ok_is (found_of boxes, last_place) (found, end) same) in
        moov_among size bytes boxes place last_place are
        (λ none. some (sym (ap (λ (f : TopLevelBoxes). f.moov) is) ∙ rw none refl))

-- the bytes of such a file aren't empty
pub not_empty : (size : ℕ) (start : Cursor) → MayTakeMemory size start → 0 < length start.bytes
not_empty size start m =
    let b = m.box in
    let r = header_read (here start.bytes m.place) (record { name = b.name; size = b.to - b.from + 8 })
    (here start.bytes b.from) b.begins.head in
    omega (arith, r.long, b.begins.order, b.inside)
