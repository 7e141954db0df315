-- The files that open are those of the grammar, and what refuses all others is their first fault.
use Rattle.std.proofs.Common.{◌≡◌, ◌⊎◌, inl, inr, ℕ, zero, suc, ◌+◌, ◌-◌, ◌^◌, ◌≤◌, ◌<◌, false, true, cond, ltb, leb}
use Rattle.std.proofs.Common.{eqb, List, [], ◌∷◌, length, Option, Some, None, Result, Ok, Err, refl, sym, ap, subst}
use Rattle.std.proofs.Common.{◌∙◌, arith}
use Rattle.std.proofs.lemmas.Bool.{le-ltb, lt-ltb, ne_eqb, cases_lt}
use Rattle.std.proofs.lemmas.List.{append-nil}
use Rattle.mp4_codec.specs.declared.box_type.BoxType.{BoxType}
use Rattle.mp4_codec.specs.declared.box_type.BoxType.TheVariants.{FtypBox as ftyp, MoovBox as moov}
use Rattle.mp4_codec.specs.declared.header.BoxHeader.{BoxHeader}
use Rattle.mp4_codec.specs.Cause.{Cause, end_of_data, invalid_data, box_not_found, ◌>>=◌}
use Rattle.mp4_codec.specs.Cursor.{Cursor, Head, head_at, header_at, reported, here}
use Rattle.mp4_codec.specs.Children.{last}
use Rattle.mp4_codec.specs.FramingLaws.{said_why, why_no_head}
use Rattle.mp4_codec.specs.Steps.{ok_is, both_steps}
use Rattle.mp4_codec.proofs.HeadLaws.{Closed, head_read}
use Rattle.mp4_leaf.specs.declared.ftyp.FtypBox.{FtypBox}
use Rattle.mp4_boxes.specs.declared.moov.MoovBox.{MoovBox}
use Rattle.mp4_media.specs.FileBoxes.{FileBox, BoxContent, Skipped}
use Rattle.mp4_media.specs.FileBoxes.{meaning_of, ftyps_in, moovs_in, moofs_in, OpenedFile}
use Rattle.mp4_media.specs.FileGrammar.{between, Begins, Holds, read, skipped, IsFileBox, EndsFile, no_more, open_end}
use Rattle.mp4_media.specs.FileGrammar.{AreFileBoxes, IsFile, HoldsNothing, past_the_bytes, meaningless, past_64_bits}
use Rattle.mp4_media.specs.FileGrammar.{IsFault, rest, no_header, larger, nothing, IsFaultyFile, faulty_box, no_ftyp}
use Rattle.mp4_media.specs.FileGrammar.{no_moov, wrong_ids}
use Rattle.mp4_media.specs.MovieTracks.{id_fault}
use Rattle.mp4_media.specs.Walk.{content_at, with_content, next_box_at, file_boxes_at, found_of, opened_with, opened_at}
use Rattle.mp4_media.proofs.Walking.{after_boxes, starts_with, opened-refused, opened-no_ftyp, opened-no_moov}
use Rattle.mp4_media.proofs.Walking.{opened-wrong_ids, opened-all}

gt-leb : (m n : ℕ) → n < m → leb m n ≡ false
gt-leb m n h = grind arith

le-leb : (m n : ℕ) → m ≤ n → leb m n ≡ true
le-leb m n h = grind arith

-- a header that was read: it has 8 bytes at least, and its size is 0 or at least 8
pub record HeaderRead (place : Cursor) (h : BoxHeader) (end : Cursor) : Type 0 where
  pub long : place.position + 8 ≤ end.position
  pub after : end ≡ here place.bytes end.position
  pub sized : (h.size ≡ 0) ⊎ (8 ≤ h.size)

abbrev as_reported : Head × Cursor → Result (BoxHeader × Cursor) Cause
as_reported x = Ok (reported x.0, x.1)

pub header_read : (place : Cursor) (h : BoxHeader) (end : Cursor) → header_at place ≡ Ok (h, end)
    → HeaderRead place h end
header_read place h end e =
    let one = both_steps (head_at place) as_reported (h, end) e in
    let r = head_read place one.0.0 one.0.1 one.1 in
    let same = ok_is (reported one.0.0, one.0.1) (h, end) one.2 in
    subst (λ (x : BoxHeader × Cursor). HeaderRead place x.0 x.1) same (record {
      long = omega (arith, ap (λ (p : Cursor). p.position) r.after, r.long);
      after = rw r.after refl;
      sized = by one.0.0 r.whole;
    })
  where
    by : (head : Head) → (head.total ≡ None) ⊎ Closed head → ((reported head).size ≡ 0) ⊎ (8 ≤ (reported head).size)
    by head (inl none) = rw none (inl refl)
    by head (inr c) = rw c.is (inr (omega arith))

-- what a box holds is what its content is
module _ (bytes : List ℕ) (name : BoxType) (from to : ℕ) (order : from ≤ to) where
  own_length : to - from + 8 - 8 ≡ to - from
  own_length = omega arith

  with_header : ltb (to - from + 8) 8 ≡ false
  with_header = le-ltb (to - from + 8) 8 (omega arith)

  ends_at : from + (to - from) ≡ to
  ends_at = omega (arith, order)

  content-held : (content : BoxContent) → Holds bytes name from to content
      → content_at (meaning_of name) (to - from + 8) (here bytes from) ≡ Ok (content, here bytes to)
  content-held content (read value is inside e) =
      let within : ltb (length bytes) (from + (to - from)) ≡ false =
      le-ltb (length bytes) (from + (to - from)) (omega (arith, ends_at, inside)) in
      rw (is, with_header, own_length, within, e, ends_at) refl
  content-held content (skipped is small e) =
      let within : ltb (2 ^ 64 - 1) (from + (to - from)) ≡ false =
      le-ltb (2 ^ 64 - 1) (from + (to - from)) (omega (arith, ends_at, small)) in
      rw (is, own_length, within, ends_at, e) refl

  content-missing : (c : Cause) → HoldsNothing bytes name from to c
      → content_at (meaning_of name) (to - from + 8) (here bytes from) ≡ Err c
  content-missing c (past_the_bytes value is outside e) =
      let past : ltb (length bytes) (from + (to - from)) ≡ true =
      lt-ltb (length bytes) (from + (to - from)) (omega (arith, ends_at, outside)) in
      rw (is, with_header, own_length, past, e) refl
  content-missing c (meaningless value is inside e) =
      let within : ltb (length bytes) (from + (to - from)) ≡ false =
      le-ltb (length bytes) (from + (to - from)) (omega (arith, ends_at, inside)) in
      rw (is, with_header, own_length, within, e) refl
  content-missing c (past_64_bits is wide e) =
      let past : ltb (2 ^ 64 - 1) (from + (to - from)) ≡ true =
      lt-ltb (2 ^ 64 - 1) (from + (to - from)) (omega (arith, ends_at, wide)) in
      rw (is, own_length, past, e) refl

-- the next box where one begins
begun-next : (size : ℕ) (bytes : List ℕ) (place : ℕ) (name : BoxType) (from to : ℕ)
    → Begins size bytes place name from to
    → next_box_at size (here bytes place) ≡ cond (ltb size (to - from + 8)) (Err invalid_data)
    (content_at (meaning_of name) (to - from + 8) (here bytes from) >>= with_content place)
unfolding next_box_at
begun-next size bytes place name from to w =
    let room : place + 8 ≤ size = w.room in
    let below : leb size place ≡ false = gt-leb size place (omega arith) in
    let few : ltb size (place + 8) ≡ false = le-ltb size (place + 8) room in
    let closed : eqb (to - from + 8) 0 ≡ false = ne_eqb (to - from + 8) 0 (λ e. omega arith) in
    rw (below, few, w.head, closed) refl

-- a box of the grammar is the next one
pub is_next : (size : ℕ) (bytes : List ℕ) (place next : ℕ) (b : FileBox) → IsFileBox size bytes place next b
    → next_box_at size (here bytes place) ≡ Ok (Some b, here bytes next)
is_next size bytes place next b w =
    let fits : ltb size (next - w.from + 8) ≡ false = le-ltb size (next - w.from + 8) w.fits in
    begun-next size bytes place w.name w.from next w.begins
    ∙ rw (fits, content-held bytes w.name w.from next w.begins.order b.content w.holds, ← w.place_is) refl

-- where a file ends there is no next box
pub is_last : (size : ℕ) (bytes : List ℕ) (place : ℕ) → EndsFile size bytes place
    → next_box_at size (here bytes place) ≡ Ok (None, here bytes place)
unfolding next_box_at
is_last size bytes place (no_more past) = rw (le-leb size place past) refl
is_last size bytes place (open_end within name from e) =
    let below : leb size place ≡ false = gt-leb size place (omega (arith, within)) in
    let few : ltb size (place + 8) ≡ false = le-ltb size (place + 8) within in
    rw (below, few, e) refl

-- a fault refuses the next box
pub is_refused : (size : ℕ) (bytes : List ℕ) (place : ℕ) (c : Cause) → IsFault size bytes place c
    → next_box_at size (here bytes place) ≡ Err c
unfolding next_box_at
is_refused size bytes place c (rest below few e) = rw (gt-leb size place below, lt-ltb size (place + 8) few, e) refl
is_refused size bytes place c (no_header room why) =
    let below : leb size place ≡ false = gt-leb size place (omega (arith, room)) in
    let few : ltb size (place + 8) ≡ false = le-ltb size (place + 8) room in
    rw (below, few, said_why (here bytes place) c why) refl
is_refused size bytes place c (larger name from to w past e) =
    begun-next size bytes place name from to w ∙ rw (lt-ltb size (to - from + 8) past, e) refl
is_refused size bytes place c (nothing name from to w fits why) =
    begun-next size bytes place name from to w
    ∙ rw (le-ltb size (to - from + 8) fits, content-missing bytes name from to w.order c why) refl

-- what is at a place of a file: its end, a box, or a fault
pub data Stands (size : ℕ) (bytes : List ℕ) (place : ℕ) : Type 0 where
  ends : EndsFile size bytes place → Stands size bytes place
  box : (b : FileBox) (next : ℕ) → IsFileBox size bytes place next b → Stands size bytes place
  fault : (c : Cause) → IsFault size bytes place c → Stands size bytes place

module _ (size : ℕ) (bytes : List ℕ) (place : ℕ) where
  module _ (name : BoxType) (from to : ℕ) (w : Begins size bytes place name from to) (fits : to - from + 8 ≤ size) where
    holds : (content : BoxContent) → Holds bytes name from to content → Stands size bytes place
    holds content h = box (record { place = place; content = content }) to (record {
      name = name;
      from = from;
      begins = w;
      fits = fits;
      place_is = refl;
      holds = h;
    })

    missing : (c : Cause) → HoldsNothing bytes name from to c → Stands size bytes place
    missing c why = fault c (nothing name from to w fits why)

    by_value : (value : List ℕ → Result BoxContent Cause) → meaning_of name ≡ Some value → to ≤ length bytes
        → (r : Result BoxContent Cause) → value (between bytes from to) ≡ r → Stands size bytes place
    by_value value is inside (Ok content) e = holds content (read value is inside e)
    by_value value is inside (Err c) e = missing c (meaningless value is inside e)

    by_end : (value : List ℕ → Result BoxContent Cause) → meaning_of name ≡ Some value
        → (length bytes < to) ⊎ (to ≤ length bytes) → Stands size bytes place
    by_end value is (inl outside) = missing end_of_data (past_the_bytes value is outside refl)
    by_end value is (inr inside) = by_value value is inside (value (between bytes from to)) refl

    by_range : meaning_of name ≡ None → (to < 2 ^ 64) ⊎ (2 ^ 64 ≤ to) → Stands size bytes place
    by_range is (inl small) = holds Skipped (skipped is small refl)
    by_range is (inr wide) = missing invalid_data (past_64_bits is wide refl)

    by_meaning : (m : Option (List ℕ → Result BoxContent Cause)) → meaning_of name ≡ m → Stands size bytes place
    by_meaning None is = by_range is (cases_lt to (2 ^ 64))
    by_meaning (Some value) is = by_end value is (cases_lt (length bytes) to)

  by_total : (name : BoxType) (from to : ℕ) → Begins size bytes place name from to
      → (size < to - from + 8) ⊎ (to - from + 8 ≤ size) → Stands size bytes place
  by_total name from to w (inl past) = fault invalid_data (larger name from to w past refl)
  by_total name from to w (inr fits) = by_meaning name from to w fits (meaning_of name) refl

  module _ (room : place + 8 ≤ size) where
    by_size : (h : BoxHeader) (end : Cursor) → header_at (here bytes place) ≡ Ok (h, end)
        → end ≡ here bytes end.position
        → (h.size ≡ 0) ⊎ (8 ≤ h.size) → Stands size bytes place
    by_size h end e after (inl no_end) =
        ends (open_end room h.name end.position
        (e ∙ ap (λ (p : Cursor). Ok (h, p)) after ∙ ap
        (λ (n : ℕ). Ok (record { name = h.name; size = n }, here bytes end.position)) no_end))
    by_size h end e after (inr large) =
        let from : ℕ = end.position in
        let to : ℕ = from + (h.size - 8) in
        let same : h.size ≡ to - from + 8 = omega (arith, large) in
        by_total h.name from to (record {
          room = room;
          head =
              e
              ∙ ap (λ (p : Cursor). Ok (h, p)) after
              ∙ ap (λ (n : ℕ). Ok (record { name = h.name; size = n }, here bytes from)) same;
          order = omega arith;
        }) (cases_lt size (to - from + 8))

    by_header : (r : Result (BoxHeader × Cursor) Cause) → header_at (here bytes place) ≡ r → Stands size bytes place
    by_header (Err c) e = fault c (no_header room (why_no_head (here bytes place) c e))
    by_header (Ok x) e = let r = header_read (here bytes place) x.0 x.1 e in by_size x.0 x.1 e r.after r.sized

  by_room : place < size → (size < place + 8) ⊎ (place + 8 ≤ size) → Stands size bytes place
  by_room below (inl few) = fault end_of_data (rest below few refl)
  by_room below (inr room) = by_header room (header_at (here bytes place)) refl

  by_place : (place < size) ⊎ (size ≤ place) → Stands size bytes place
  by_place (inl below) = by_room below (cases_lt size (place + 8))
  by_place (inr past) = ends (no_more past)

  pub stands : Stands size bytes place
  stands = by_place (cases_lt place size)

-- a box goes on to a further place
further : (size : ℕ) (bytes : List ℕ) (place next : ℕ) (b : FileBox) → IsFileBox size bytes place next b → place < next
further size bytes place next b w =
    let r =
    header_read (here bytes place) (record { name = w.name; size = next - w.from + 8 }) (here bytes w.from)
    w.begins.head in
    omega (arith, r.long, w.begins.order)

-- the boxes to the end of a file, or to a fault
pub data Whole (size : ℕ) (bytes : List ℕ) (place : ℕ) : Type 0 where
  all : (boxes : List FileBox) (end : ℕ) → AreFileBoxes size bytes place boxes end → EndsFile size bytes end
      → Whole size bytes place
  broken : (boxes : List FileBox) (end : ℕ) (c : Cause) → AreFileBoxes size bytes place boxes end
      → IsFault size bytes end c → Whole size bytes place

none_more : (size : ℕ) (bytes : List ℕ) (place : ℕ) → AreFileBoxes size bytes place [] place
unfolding AreFileBoxes
none_more size bytes place = refl

one_more : (size : ℕ) (bytes : List ℕ) (place next : ℕ) (b : FileBox) → IsFileBox size bytes place next b
    → Whole size bytes next → Whole size bytes place
unfolding AreFileBoxes
one_more size bytes place next b w (all boxes end are closed) = all (b ∷ boxes) end (next, w, are) closed
one_more size bytes place next b w (broken boxes end c are why) = broken (b ∷ boxes) end c (next, w, are) why

pub whole : (n size : ℕ) (bytes : List ℕ) (place : ℕ) → size ≤ n + place → Whole size bytes place
whole zero size bytes place enough = all [] place (none_more size bytes place) (no_more (omega arith))
whole (suc n) size bytes place enough =
    by (λ next onward. whole n size bytes next (omega arith)) (stands size bytes place)
  where
    by : ((next : ℕ) → place < next → Whole size bytes next) → Stands size bytes place → Whole size bytes place
    by others (ends closed) = all [] place (none_more size bytes place) closed
    by others (fault c why) = broken [] place c (none_more size bytes place) why
    by others (box b next w) = one_more size bytes place next b w (others next (further size bytes place next b w))

abbrev with_more : FileBox → List FileBox × ℕ → Result (List FileBox × ℕ) Cause
with_more b more = Ok (b ∷ more.0, more.1)

one_first : (b : FileBox) (bs : List FileBox) (r : Result (List FileBox × ℕ) Cause)
    → (after_boxes bs r >>= with_more b) ≡ after_boxes (b ∷ bs) r
one_first b bs (Ok x) = refl
one_first b bs (Err c) = refl

-- the boxes of the grammar are those that the walk finds, and then it goes on
pub walked : (bs : List FileBox) (n size : ℕ) (bytes : List ℕ) (place end : ℕ)
    (others : Result (List FileBox × ℕ) Cause) → size ≤ n + place → AreFileBoxes size bytes place bs end
    → ((m : ℕ) → size ≤ m + end → file_boxes_at m size (here bytes end) ≡ others)
    → file_boxes_at n size (here bytes place) ≡ after_boxes bs others
unfolding file_boxes_at AreFileBoxes
walked [] n size bytes place end others enough h goes_on =
    ap (λ (p : ℕ). file_boxes_at n size (here bytes p)) (sym h)
    ∙ goes_on n (omega (arith, enough, h))
    ∙ starts_with others
walked (b ∷ bs) zero size bytes place end others enough h goes_on = let room = h.1.begins.room in absurd (omega arith)
walked (b ∷ bs) (suc n) size bytes place end others enough h goes_on =
    let onward = further size bytes place h.0 b h.1 in
    rw (is_next size bytes place h.0 b h.1, walked bs n size bytes h.0 end others (omega arith) h.2 goes_on)
    (one_first b bs others)

walked-end : (size : ℕ) (bytes : List ℕ) (end : ℕ) → EndsFile size bytes end → (m : ℕ)
    → file_boxes_at m size (here bytes end) ≡ Ok ([], end)
unfolding file_boxes_at
walked-end size bytes end closed zero = refl
walked-end size bytes end closed (suc m) = rw (is_last size bytes end closed) refl

below-size : (size : ℕ) (bytes : List ℕ) (place : ℕ) (c : Cause) → IsFault size bytes place c → place < size
below-size size bytes place c (rest below few e) = below
below-size size bytes place c (no_header room why) = omega (arith, room)
below-size size bytes place c (larger name from to w past e) = omega (arith, w.room)
below-size size bytes place c (nothing name from to w fits why) = omega (arith, w.room)

pub walked-fault : (size : ℕ) (bytes : List ℕ) (place : ℕ) (c : Cause) → IsFault size bytes place c → (m : ℕ)
    → size ≤ m + place → file_boxes_at m size (here bytes place) ≡ Err c
unfolding file_boxes_at
walked-fault size bytes place c why zero enough = let below = below-size size bytes place c why in absurd (omega arith)
walked-fault size bytes place c why (suc m) enough = rw (is_refused size bytes place c why) refl

module _ (size : ℕ) (start : Cursor) where
  pub all-read : (boxes : List FileBox) (end : ℕ) → AreFileBoxes size start.bytes start.position boxes end
      → EndsFile size start.bytes end → file_boxes_at size size start ≡ Ok (boxes, end)
  all-read boxes end are closed =
      walked boxes size size start.bytes start.position end (Ok ([], end)) (omega arith) are
      (λ m enough. walked-end size start.bytes end closed m)
      ∙ ap (λ (bs : List FileBox). Ok (bs, end)) (append-nil boxes)

  -- a file of the grammar opens
  pub file-opens : (o : OpenedFile) → IsFile size start o → opened_at size start ≡ Ok o
  file-opens o f =
      opened-all size start f.boxes f.end (all-read f.boxes f.end f.are f.ends) o.ftyp o.moov f.ftyp f.moov
      (ap (id_fault o.moov) (sym f.moofs) ∙ f.ids)
      ∙ ap Ok (same o f)
    where
      same : (o : OpenedFile) (f : IsFile size start o)
          → opened_with (found_of f.boxes) o.ftyp o.moov (f.end - start.position) ≡ o
      same o f = rw (← f.moofs, ← f.moof_places, ← f.emsgs, ← f.size_is) refl

  there : {A : Type 0} (xs : List A) → (xs ≡ [] → ⊥) → (x : A) × (last xs ≡ Some x)
  there [] some = absurd (some refl)
  there (x ∷ []) some = (x, refl)
  there (x ∷ y ∷ ys) some = there (y ∷ ys) (λ e. absurd cc)

  -- a faulty file is refused by its first fault
  pub faulty-refused : (c : Cause) → IsFaultyFile size start c → opened_at size start ≡ Err c
  faulty-refused c (faulty_box boxes place are why) =
      opened-refused size start c
      (walked boxes size size start.bytes start.position place (Err c) (omega arith) are
      (walked-fault size start.bytes place c why))
  faulty-refused c (no_ftyp boxes end are closed none e) =
      rw e (opened-no_ftyp size start boxes end (all-read boxes end are closed) (rw none refl))
  faulty-refused c (no_moov boxes end are closed some none e) =
      let f = there (ftyps_in boxes) some in
      rw e (opened-no_moov size start boxes end (all-read boxes end are closed) f.0 f.1 (rw none refl))
  faulty-refused c (wrong_ids boxes end are closed some m is_m wrong) =
      let f = there (ftyps_in boxes) some in
      opened-wrong_ids size start boxes end (all-read boxes end are closed) f.0 m f.1 is_m c wrong

  -- each file is one of the grammar or has a first fault
  data File : Type 0 where
    opens : (o : OpenedFile) → IsFile size start o → File
    refused : (c : Cause) → IsFaultyFile size start c → File

  file : File
  file = by (whole size size start.bytes start.position (omega arith))
    where
      some_there : {A : Type 0} (x : A) (xs : List A) → (y : A) × (last (x ∷ xs) ≡ Some y)
      some_there x [] = (x, refl)
      some_there x (y ∷ ys) = some_there y ys

      by_ids : (boxes : List FileBox) (end : ℕ) → AreFileBoxes size start.bytes start.position boxes end
          → EndsFile size start.bytes end
          → (f : FtypBox) → last (ftyps_in boxes) ≡ Some f → (ftyps_in boxes ≡ [] → ⊥)
          → (m : MoovBox) → last (moovs_in boxes) ≡ Some m
          → (o : Option Cause) → id_fault m (moofs_in boxes) ≡ o → File
      by_ids boxes end are closed f is_f some m is_m (Some c) wrong =
          refused c (wrong_ids boxes end are closed some m is_m wrong)
      by_ids boxes end are closed f is_f some m is_m None none =
          opens (opened_with (found_of boxes) f m (end - start.position)) (record {
            boxes = boxes;
            end = end;
            are = are;
            ends = closed;
            ftyp = is_f;
            moov = is_m;
            moofs = refl;
            moof_places = refl;
            emsgs = refl;
            ids = none;
            size_is = refl;
          })

      by_kinds : (boxes : List FileBox) (end : ℕ) → AreFileBoxes size start.bytes start.position boxes end
          → EndsFile size start.bytes end
          → (fs : List FtypBox) → ftyps_in boxes ≡ fs → (ms : List MoovBox) → moovs_in boxes ≡ ms → File
      by_kinds boxes end are closed [] is_f ms is_m =
          refused (box_not_found ftyp) (no_ftyp boxes end are closed is_f refl)
      by_kinds boxes end are closed (f ∷ fs) is_f [] is_m =
          refused (box_not_found moov) (no_moov boxes end are closed (λ e. absurd cc) is_m refl)
      by_kinds boxes end are closed (f ∷ fs) is_f (m ∷ ms) is_m =
          let one = some_there f fs in
          let two = some_there m ms in
          by_ids boxes end are closed one.0 (rw is_f one.1)
          (λ none. let no : f ∷ fs ≡ [] = sym is_f ∙ none in absurd cc) two.0 (rw is_m two.1)
          (id_fault two.0 (moofs_in boxes)) refl

      by : Whole size start.bytes start.position → File
      by (broken boxes end c are why) = refused c (faulty_box boxes end are why)
      by (all boxes end are closed) = by_kinds boxes end are closed (ftyps_in boxes) refl (moovs_in boxes) refl

  -- what opens is a file of the grammar
  pub opened-is_file : (o : OpenedFile) → opened_at size start ≡ Ok o → IsFile size start o
  opened-is_file o e = by file
    where
      by : File → IsFile size start o
      by (opens p f) = subst (IsFile size start) (ok_is p o (sym (file-opens p f) ∙ e)) f
      by (refused c f) = let not = sym (faulty-refused c f) ∙ e in absurd cc

  -- what refuses a file is its first fault
  pub refused-is_faulty : (c : Cause) → opened_at size start ≡ Err c → IsFaultyFile size start c
  refused-is_faulty c e = by file
    where
      by : File → IsFaultyFile size start c
      by (opens p f) = let not = sym (file-opens p f) ∙ e in absurd cc
      by (refused d f) =
          let both = sym (faulty-refused d f) ∙ e in let same : d ≡ c = cc in subst (IsFaultyFile size start) same f
