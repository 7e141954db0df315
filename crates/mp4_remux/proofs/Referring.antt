-- The references that a movie box has.
use Rattle.std.proofs.Common.{◌≡◌, ◌∙◌, ℕ, zero, suc, ◌+◌, ◌-◌, ◌<◌, ◌≤◌, ◌==◌, Bool, true, false}
use Rattle.std.proofs.Common.{List, [], ◌∷◌, ◌++◌, length, take, drop, map, Option, None, Some, Ok, refl, sym, ap}
use Rattle.std.proofs.Common.{arith, append_assoc, slice_index_or, Err, inl, inr, ◌⊎◌, if◌then◌else◌}
use Rattle.std.proofs.lemmas.Bool.{le-ltb, lt-ltb, eq-eqb, ne_eqb, or_from, or_left, or_right}
use Rattle.std.proofs.lemmas.List.{append-nil, length-append, length-drop, take_all}
use Rattle.std.specs.List.{filter, flat_map}
use Rattle.byteorder.specs.Endian.{big_number}
use Rattle.mp4_codec.specs.BoxType.{code_of}
use Rattle.mp4_codec.specs.Cause.{Cause}
use Rattle.mp4_codec.specs.Cursor.{Cursor, here, header_at}
use Rattle.mp4_codec.specs.declared.box_type.BoxType.{BoxType}
use Rattle.mp4_codec.specs.declared.box_type.BoxType.TheVariants.{TrakBox}
use Rattle.mp4_codec.specs.declared.header.BoxHeader.{BoxHeader}
use Rattle.mp4_remux.specs.declared.reference.Reference.{Reference}
use Rattle.mp4_remux.specs.Kept.{IsFirstBox}
use Rattle.mp4_remux.specs.References.{Part, part_with, part_after, first_part, parts_after, parts_in, part_and}
use Rattle.mp4_remux.specs.References.{ids_in, of_box, of_first, of_kind, of_track, of_each_track, references_in}
use Rattle.mp4_remux.proofs.Numbered.{drop_next, drop_all}

-- THE BOXES WITH WHICH BYTES BEGIN

-- the first of two lists, and the second
front_of : (xs ys : List ℕ) → take (length xs) (xs ++ ys) ≡ xs
front_of [] ys = refl
front_of (x ∷ xs) ys = ap (λ (zs : List ℕ). x ∷ zs) (front_of xs ys)

back_of : (xs ys : List ℕ) → drop (length xs) (xs ++ ys) ≡ ys
back_of [] ys = refl
back_of (x ∷ xs) ys = back_of xs ys

-- the box of such a header and payload
abbrev pub part_of : BoxType → List ℕ → List ℕ → Part
part_of name header payload = record { name = name; payload = payload; size = length header + length payload }

either : {X : Type 0} (b : Bool) (x y : X) → b ≡ true → (if b then x else y) ≡ x
either b x y is = rw is refl

neither : {X : Type 0} (b : Bool) (x y : X) → b ≡ false → (if b then x else y) ≡ y
neither b x y is = rw is refl

-- a header that ends there says a box of this length, which is there
part_is : (bytes : List ℕ) (name : BoxType) (from n size : ℕ) (payload : List ℕ) → 0 < size → size - 8 ≡ n
    → from + n ≤ length bytes → take n (drop from bytes) ≡ payload
    → part_with bytes (record { name = name; size = size }) from
    ≡ Some (record { name = name; payload = payload; size = from + n })
part_is bytes name from n size payload some is within has =
    let part : ℕ → Part = λ k. record { name = name; payload = take k (drop from bytes); size = from + k } in
    let of_payload : List ℕ → Part = λ p. record { name = name; payload = p; size = from + n } in
    neither _ None (Some (part (size - 8)))
    (or_from (size == 0) _ (ne_eqb size 0 (λ e. omega (arith, e, some)))
    (le-ltb (length bytes) (from + (size - 8)) (omega (arith, is, within))))
    ∙ ap (λ k. Some (part k)) is ∙ ap (λ p. Some (of_payload p)) has

-- bytes begin with this box
pub first_is : (bytes : List ℕ) (name : BoxType) (header payload after : List ℕ)
    → IsFirstBox bytes name header payload after → first_part bytes ≡ Some (part_of name header payload)
unfolding first_part
first_is bytes name header payload after f =
    let rest : drop (length header) bytes ≡ payload ++ after =
    ap (drop (length header)) f.all ∙ back_of header (payload ++ after) in
    let long : length bytes ≡ length header + (length payload + length after) =
    ap (λ (xs : List ℕ). length xs) f.all ∙ length-append header (payload ++ after)
    ∙ ap (λ n. length header + n) (length-append payload after) in
    ap (part_after bytes) f.head
    ∙ part_is bytes name (length header) (length payload) (8 + length payload) payload
    (omega arith) (omega arith) (omega (arith, long))
    (ap (take (length payload)) rest ∙ front_of payload after)

-- what comes after it
pub after_is : (bytes : List ℕ) (name : BoxType) (header payload after : List ℕ)
    → IsFirstBox bytes name header payload after → drop (length header + length payload) bytes ≡ after
after_is bytes name header payload after f =
    ap (drop (length header + length payload)) (f.all ∙ sym (append_assoc header payload after))
    ∙ ap (λ n. drop n ((header ++ payload) ++ after)) (sym (length-append header payload))
    ∙ back_of (header ++ payload) after

-- bytes that are passed over
passed : (n : ℕ) (xs : List ℕ) → parts_after n xs ≡ parts_in (drop n xs)
unfolding parts_after
passed zero xs = refl
passed (suc n) [] = refl
passed (suc n) (x ∷ xs) = passed n xs

from_first : (xs : List ℕ) (p : Part) (n : ℕ) → 0 < length xs → first_part xs ≡ Some p → p.size ≡ suc n
    → parts_in xs ≡ p ∷ parts_in (drop p.size xs)
unfolding parts_after
from_first [] p n some is e = absurd (omega (arith, some))
from_first (x ∷ xs) p n some is e =
    ap (λ (o : Option Part). part_and o (λ k. parts_after k xs)) is
    ∙ ap (λ (ps : List Part). p ∷ ps) (ap (λ k. parts_after k xs) (omega (arith, e)) ∙ passed n xs
    ∙ ap (λ k. parts_in (drop k (x ∷ xs))) (sym e))

-- bytes that begin with a box
pub begin_with : (bytes : List ℕ) (name : BoxType) (header payload after : List ℕ) → 8 ≤ length header
    → IsFirstBox bytes name header payload after
    → parts_in bytes ≡ part_of name header payload ∷ parts_in after
begin_with bytes name header payload after some f =
    let long : length bytes ≡ length header + length (payload ++ after) =
    ap (λ (xs : List ℕ). length xs) f.all ∙ length-append header (payload ++ after) in
    from_first bytes (part_of name header payload) (length header + length payload - 1) (omega (arith, some, long))
    (first_is bytes name header payload after f) (omega (arith, some))
    ∙ ap (λ (ys : List ℕ). part_of name header payload ∷ parts_in ys) (after_is bytes name header payload after f)

-- bytes that begin with none
pub begin_with_none : (bytes : List ℕ) → first_part bytes ≡ None → parts_in bytes ≡ []
unfolding parts_after
begin_with_none [] none = refl
begin_with_none (x ∷ xs) none = ap (λ (o : Option Part). part_and o (λ k. parts_after k xs)) none

-- no header is there
pub no_header : (bytes : List ℕ) (c : Cause) → header_at (here bytes 0) ≡ Err c → first_part bytes ≡ None
unfolding first_part
no_header bytes c refused = ap (part_after bytes) refused

-- the box whose header is there has no end, or isn't whole
pub not_whole : (bytes : List ℕ) (head : BoxHeader) (cursor : Cursor) → header_at (here bytes 0) ≡ Ok (head, cursor)
    → (head.size ≡ 0) ⊎ (length bytes < cursor.position + (head.size - 8)) → first_part bytes ≡ None
unfolding first_part
not_whole bytes head cursor is (inl endless) =
    ap (part_after bytes) is ∙ either _ None _ (or_left (head.size == 0) _ (eq-eqb head.size 0 endless))
not_whole bytes head cursor is (inr past) =
    ap (part_after bytes) is
    ∙ either _ None _ (or_right (head.size == 0) _ (lt-ltb (length bytes) (cursor.position + (head.size - 8)) past))

-- LISTS THAT GROW BY WHAT EACH BOX HAS

module _ (f : Part → List Reference) (bytes after : List ℕ) (p : Part) (list all new : List Reference)
    (is : parts_in bytes ≡ p ∷ parts_in after) (upto : list ++ flat_map f (parts_in bytes) ≡ all)
    (grown : new ≡ list ++ f p) where
  pub box_more : new ++ flat_map f (parts_in after) ≡ all
  box_more =
      ap (λ (xs : List Reference). xs ++ flat_map f (parts_in after)) grown
      ∙ append_assoc list (f p) (flat_map f (parts_in after))
      ∙ ap (λ (ps : List Part). list ++ flat_map f ps) (sym is) ∙ upto

-- the list has all where no box follows
pub boxes_end : (f : Part → List Reference) (bytes : List ℕ) (list all : List Reference) → parts_in bytes ≡ []
    → list ++ flat_map f (parts_in bytes) ≡ all → list ≡ all
boxes_end f bytes list all none upto =
    sym (append-nil list) ∙ ap (λ (ps : List Part). list ++ flat_map f ps) (sym none) ∙ upto

-- THE IDS OF A REFERENCE

-- four bytes and more
pub ids_next : (xs : List ℕ) → 4 ≤ length xs → ids_in xs ≡ big_number 4 xs ∷ ids_in (drop 4 xs)
unfolding ids_in
ids_next [] le = absurd (omega (arith, le))
ids_next (a ∷ []) le = absurd (omega (arith, le))
ids_next (a ∷ b ∷ []) le = absurd (omega (arith, le))
ids_next (a ∷ b ∷ c ∷ []) le = absurd (omega (arith, le))
ids_next (a ∷ b ∷ c ∷ d ∷ rest) le = refl

-- less
pub ids_end : (xs : List ℕ) → length xs < 4 → ids_in xs ≡ []
unfolding ids_in
ids_end [] lt = refl
ids_end (a ∷ []) lt = refl
ids_end (a ∷ b ∷ []) lt = refl
ids_end (a ∷ b ∷ c ∷ []) lt = refl
ids_end (a ∷ b ∷ c ∷ d ∷ rest) lt = absurd (omega (arith, lt))

-- what is left after some bytes
pub rest_of : (n : ℕ) (xs : List ℕ) → take (length xs - n) (drop n xs) ≡ drop n xs
rest_of n xs = take_all (length xs - n) (drop n xs) (omega (arith, length-drop n xs))

-- one reference more
pub kind_more : (f : ℕ → Reference) (xs : List ℕ) (list all : List Reference) → 4 ≤ length xs
    → list ++ map f (ids_in xs) ≡ all → (list ++ f (big_number 4 xs) ∷ []) ++ map f (ids_in (drop 4 xs)) ≡ all
kind_more f xs list all le upto =
    append_assoc list (f (big_number 4 xs) ∷ []) (map f (ids_in (drop 4 xs)))
    ∙ ap (λ (ids : List ℕ). list ++ map f ids) (sym (ids_next xs le)) ∙ upto

pub kind_end : (f : ℕ → Reference) (xs : List ℕ) (list all : List Reference) → length xs < 4
    → list ++ map f (ids_in xs) ≡ all → list ≡ all
kind_end f xs list all lt upto =
    sym (append-nil list) ∙ ap (λ (ids : List ℕ). list ++ map f ids) (sym (ids_end xs lt)) ∙ upto

-- THE TRACKS OF A MOVIE

-- references are in `tref`
pub in_tref : (track : ℕ) (name : BoxType) (payload : List ℕ) → code_of name ≡ 0x74726566
    → of_box track name payload ≡ flat_map (λ (p : Part). of_kind track p.name p.payload) (parts_in payload)
in_tref track name payload is = rw is refl

-- bytes without a box have no references
pub none_in : (movie ids : List ℕ) → parts_in movie ≡ [] → references_in movie ids ≡ []
none_in movie ids none = ap (λ (ps : List Part). of_first ps ids) none

-- those of a movie box are those of the tracks in it
pub of_movie : (movie ids : List ℕ) (p : Part) (ps : List Part) → parts_in movie ≡ p ∷ ps
    → of_each_track (parts_in p.payload) ids ≡ references_in movie ids
of_movie movie ids p ps is = sym (ap (λ (qs : List Part). of_first qs ids) is)

without_ids : (ps : List Part) → of_each_track ps [] ≡ []
unfolding of_each_track
without_ids [] = refl
without_ids (p ∷ ps) = refl

-- no track is left
pub tracks_end : (ps : List Part) (ids : List ℕ) (i : ℕ) (list all : List Reference) → length ids ≤ i
    → list ++ of_each_track ps (drop i ids) ≡ all → list ≡ all
tracks_end ps ids i list all le upto =
    sym (append-nil list)
    ∙ ap (λ (rs : List Reference). list ++ rs)
    (sym (ap (λ (ns : List ℕ). of_each_track ps ns) (drop_all ids i le) ∙ without_ids ps))
    ∙ upto

-- no box is left
pub movie_end : (ps : List Part) (ids list_ids : List ℕ) (list all : List Reference) → ps ≡ []
    → list ++ of_each_track ps ids ≡ all → list ≡ all
unfolding of_each_track
movie_end ps ids list_ids list all none upto =
    sym (append-nil list) ∙ ap (λ (qs : List Part). list ++ of_each_track qs ids) (sym none) ∙ upto

module _ (ps qs : List Part) (p : Part) (ids : List ℕ) (i d : ℕ) (list all : List Reference) (lt : i < length ids)
    (is : ps ≡ p ∷ qs) (upto : list ++ of_each_track ps (drop i ids) ≡ all) where
  step : of_each_track ps (drop i ids) ≡ of_each_track (p ∷ qs) (slice_index_or ids i d ∷ drop (i + 1) ids)
  step =
      ap (λ (rs : List Part). of_each_track rs (drop i ids)) is
      ∙ ap (λ (ns : List ℕ). of_each_track (p ∷ qs) ns) (drop_next ids i (i + 1) d lt (omega arith))

  -- a track was looked at
  pub track_more : (new : List Reference) → code_of p.name ≡ code_of TrakBox
      → new ≡ list ++ of_track (slice_index_or ids i d) p.payload → new ++ of_each_track qs (drop (i + 1) ids) ≡ all
  unfolding of_each_track
  track_more new trak grown =
      ap (λ (rs : List Reference). rs ++ of_each_track qs (drop (i + 1) ids)) grown
      ∙ append_assoc list (of_track (slice_index_or ids i d) p.payload) (of_each_track qs (drop (i + 1) ids))
      ∙ ap (λ (rs : List Reference). list ++ rs) (sym (step ∙ rw trak refl)) ∙ upto

  -- another box was passed over
  pub track_less : (code_of p.name ≡ code_of TrakBox → ⊥) → list ++ of_each_track qs (drop i ids) ≡ all
  unfolding of_each_track
  track_less other =
      ap (λ (rs : List Reference). list ++ rs)
      (ap (λ (ns : List ℕ). of_each_track qs ns) (drop_next ids i (i + 1) d lt (omega arith))
      ∙ sym (step ∙ rw (ne_eqb (code_of p.name) (code_of TrakBox) other) refl))
      ∙ upto

-- THOSE THAT PASS A TEST

module _ {X : Type 0} (test : X → Bool) (xs out : List X) (i : ℕ) (x d : X) (lt : i < length xs)
    (is : x ≡ slice_index_or xs i d) (e : out ++ filter test (drop i xs) ≡ filter test xs) where
  ahead : drop i xs ≡ x ∷ drop (i + 1) xs
  ahead = drop_next xs i (i + 1) d lt (omega arith) ∙ ap (λ (y : X). y ∷ drop (i + 1) xs) (sym is)

  -- one more passes
  pub pass_more : test x ≡ true → (out ++ x ∷ []) ++ filter test (drop (i + 1) xs) ≡ filter test xs
  pass_more there =
      append_assoc out (x ∷ []) (filter test (drop (i + 1) xs))
      ∙ ap (λ (ys : List X). out ++ ys) (sym (ap (λ (ys : List X). filter test ys) ahead ∙ rw there refl)) ∙ e

  -- one doesn't
  pub pass_less : test x ≡ false → out ++ filter test (drop (i + 1) xs) ≡ filter test xs
  pass_less none =
      ap (λ (ys : List X). out ++ ys) (sym (ap (λ (ys : List X). filter test ys) ahead ∙ rw none refl)) ∙ e

-- all were tested
pub pass_all : {X : Type 0} (test : X → Bool) (xs out : List X) (i : ℕ) → length xs ≤ i
    → out ++ filter test (drop i xs) ≡ filter test xs → out ≡ filter test xs
pass_all test xs out i le e =
    sym (append-nil out) ∙ ap (λ ys. out ++ ys) (sym (ap (λ ys. filter test ys) (drop_all xs i le))) ∙ e

-- equal at each number, and equally many
pub all_same : {X : Type 0} (xs ys : List X) → length xs ≡ length ys
    → ((d e : X) (j : ℕ) → j < length xs → slice_index_or xs j d ≡ slice_index_or ys j e) → xs ≡ ys
all_same [] [] many same = refl
all_same [] (y ∷ ys) many same = absurd (omega (arith, many))
all_same (x ∷ xs) [] many same = absurd (omega (arith, many))
all_same {X} (x ∷ xs) (y ∷ ys) many same =
    ap (λ (z : X). z ∷ xs) (same x x 0 (omega arith))
    ∙ ap (λ (zs : List X). y ∷ zs)
    (all_same xs ys (omega (arith, many)) (λ d e j lt. same d e (suc j) (omega (arith, lt))))
