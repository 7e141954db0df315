-- A file that opens has boxes to its end, and among them its file type and its movie box, whole.
use Rattle.std.proofs.Common.{◌≡◌, ◌∙◌, ◌+◌, ◌-◌, ◌==◌, ◌<◌, ◌≤◌, ℕ, zero, suc, min, Bool, true, false, nat_lt}
use Rattle.std.proofs.Common.{if◌then◌else◌, List, [], ◌∷◌, length, Option, None, Some, Result, Ok}
use Rattle.std.proofs.Common.{refl, sym, ap, subst, arith}
use Rattle.std.proofs.lemmas.Bool.{eqb-true, ltb-true, ltb-false, ne_eqb}
use Rattle.std.specs.List.{cons_option, filter_map}
use Rattle.std.specs.Prelude.{slice_get}
use Rattle.mp4_codec.specs.BoxType.{IsNamed, box_type, code_of}
use Rattle.mp4_codec.specs.Cause.{Cause}
use Rattle.mp4_codec.specs.Children.{last}
use Rattle.mp4_codec.specs.Cursor.{here}
use Rattle.mp4_codec.specs.Steps.{both_steps, ok_is}
use Rattle.mp4_codec.specs.declared.box_type.BoxType.{BoxType}
use Rattle.mp4_codec.specs.declared.box_type.BoxType.TheVariants.{FtypBox as ftyp, MoovBox as moov, MoofBox as moof}
use Rattle.mp4_codec.specs.declared.box_type.BoxType.TheVariants.{EmsgBox as emsg}
use Rattle.mp4_codec.proofs.HeadLaws.{header_read}
use Rattle.mp4_leaf.specs.Ftyp.{ftyp_of}
use Rattle.mp4_leaf.specs.declared.ftyp.FtypBox.{FtypBox}
use Rattle.mp4_moof.specs.Emsg.{emsg_of}
use Rattle.mp4_moof.specs.Moof.{moof_of}
use Rattle.mp4_boxes.specs.Moov.{moov_of}
use Rattle.mp4_boxes.specs.declared.moov.MoovBox.{MoovBox}
use Rattle.mp4_media.specs.FileBoxes.{BoxContent, FileBox, OpenedFile, Ftyp, Moov, Moof, Emsg, Skipped}
use Rattle.mp4_media.specs.FileBoxes.{ftyp_from, ftyps_in, is_type, meaning_of, moov_from, moovs_in, read_as}
use Rattle.mp4_media.specs.FileGrammar.{AreFileBoxes, EndsFile, Holds, IsFile, IsFileBox, no_more, open_end}
use Rattle.mp4_media.specs.FileGrammar.{read, skipped}
use Rattle.mp4_remux.specs.Front.{AreBoxes, IsBoxOf, IsTopBox}
use Rattle.mp4_remux.specs.declared.top_level.TopBox.{TopBox}

-- WHAT A BOX MEANS

-- the content of a box of this type
pub record IsMeaning (name : BoxType) (content : BoxContent) : Type 0 where
  pub value : List ℕ → Result BoxContent Cause
  pub means : meaning_of name ≡ Some value
  pub payload : List ℕ
  pub is : value payload ≡ Ok content

as_kind : {A : Type 0} (kind : A → BoxContent) (value : List ℕ → Result A Cause) (payload : List ℕ)
    (content : BoxContent) → read_as kind value payload ≡ Ok content → (x : A) × (kind x ≡ content)
as_kind kind value payload content is =
    let steps = both_steps (value payload) (λ b. Ok (kind b)) content is in
    (steps.0, ok_is (kind steps.0) content steps.2)

named_as : (name t : BoxType) → IsNamed name → IsNamed t → is_type t name ≡ true → name ≡ t
named_as name t named known is = sym named ∙ ap box_type (eqb-true (code_of name) (code_of t) is) ∙ known

-- a file type's content is of a box of that type, and a movie's of a movie box
module _ (name : BoxType) (named : IsNamed name) (value : List ℕ → Result BoxContent Cause) (payload : List ℕ) where
  chosen : Bool → Bool → Bool → Bool → Option (List ℕ → Result BoxContent Cause)
  chosen a b c d =
      if a then Some (read_as Ftyp ftyp_of) else
      if b then Some (read_as Moov moov_of) else
      if c then Some (read_as Moof moof_of) else
      if d then Some (read_as Emsg emsg_of) else
      None

  value_is : {A : Type 0} (kind : A → BoxContent) (of : List ℕ → Result A Cause) (content : BoxContent)
      → Some (read_as kind of) ≡ Some value → value payload ≡ Ok content → (x : A) × (kind x ≡ content)
  value_is kind of content same is =
      let e : read_as kind of ≡ value = cc in as_kind kind of payload content (ap (λ f. f payload) e ∙ is)

  ftyp_by : (f : FtypBox) (a b c d : Bool) → is_type ftyp name ≡ a → chosen a b c d ≡ Some value
      → value payload ≡ Ok (Ftyp f) → name ≡ ftyp
  unfolding chosen box_type
  ftyp_by f true b c d here_is means is = named_as name ftyp named refl here_is
  ftyp_by f false true c d here_is means is = let x = value_is Moov moov_of (Ftyp f) means is in absurd cc
  ftyp_by f false false true d here_is means is = let x = value_is Moof moof_of (Ftyp f) means is in absurd cc
  ftyp_by f false false false true here_is means is = let x = value_is Emsg emsg_of (Ftyp f) means is in absurd cc
  ftyp_by f false false false false here_is means is = absurd cc

  moov_by : (m : MoovBox) (a b c d : Bool) → is_type moov name ≡ b → chosen a b c d ≡ Some value
      → value payload ≡ Ok (Moov m) → name ≡ moov
  unfolding chosen box_type
  moov_by m true b c d here_is means is = let x = value_is Ftyp ftyp_of (Moov m) means is in absurd cc
  moov_by m false true c d here_is means is = named_as name moov named refl here_is
  moov_by m false false true d here_is means is = let x = value_is Moof moof_of (Moov m) means is in absurd cc
  moov_by m false false false true here_is means is = let x = value_is Emsg emsg_of (Moov m) means is in absurd cc
  moov_by m false false false false here_is means is = absurd cc

ftyp_named : (name : BoxType) (f : FtypBox) → IsNamed name → IsMeaning name (Ftyp f) → name ≡ ftyp
unfolding meaning_of chosen
ftyp_named name f named m =
    ftyp_by name named m.value m.payload f (is_type ftyp name) (is_type moov name) (is_type moof name)
    (is_type emsg name) refl m.means m.is

moov_named : (name : BoxType) (m : MoovBox) → IsNamed name → IsMeaning name (Moov m) → name ≡ moov
unfolding meaning_of chosen
moov_named name b named m =
    moov_by name named m.value m.payload b (is_type ftyp name) (is_type moov name) (is_type moof name)
    (is_type emsg name) refl m.means m.is

-- ALL BOXES

-- one of these boxes has this type, and is whole
pub record HasWhole (xs : List ℕ) (boxes : List TopBox) (name : BoxType) : Type 0 where
  pub b : TopBox
  pub i : ℕ
  pub there : slice_get boxes i ≡ Some b
  pub has_name : b.name ≡ name
  pub whole : IsBoxOf xs name b

module _ (xs : List ℕ) where
  -- each of a file's boxes that is read is whole among these
  abbrev AreWhole : List TopBox → List FileBox → Type 0
  AreWhole boxes bs = (b : FileBox) (i : ℕ) → slice_get bs i ≡ Some b → (b.content ≡ Skipped → ⊥)
      → (name : BoxType) × (HasWhole xs boxes name × IsMeaning name b.content)

  whole_later : (c : TopBox) (boxes : List TopBox) (name : BoxType) → HasWhole xs boxes name
      → HasWhole xs (c ∷ boxes) name
  whole_later c boxes name h = record {
    b = h.b;
    i = suc h.i;
    there = h.there;
    has_name = h.has_name;
    whole = h.whole;
  }

  -- a box that is within the file
  module _ (place after : ℕ) (b : FileBox) (box : IsFileBox (length xs) xs place after b) where
    abbrev top_to : ℕ → TopBox
    top_to end = record { name = box.name; place = place; end = end }

    some : ((after - box.from + 8) == 0) ≡ false
    some = ne_eqb (after - box.from + 8) 0 (λ e. omega (arith, e))

    top_is : (end : ℕ) → end ≡ min after (length xs) → IsTopBox xs (top_to end)
    top_is end is = record {
      size = after - box.from + 8;
      from = box.from;
      head = box.begins.head;
      end = rw some (omega (arith, is, box.begins.order));
    }

    whole_is : after ≤ length xs → IsBoxOf xs box.name (top_to after)
    whole_is within = record {
      size = after - box.from + 8;
      from = box.from;
      head = box.begins.head;
      end = omega (arith, box.begins.order);
      within = within;
    }

    this_whole : (boxes : List TopBox) → (b.content ≡ Skipped → ⊥) → after ≤ length xs
        → Holds xs box.name box.from after b.content
        → (name : BoxType) × (HasWhole xs (top_to after ∷ boxes) name × IsMeaning name b.content)
    this_whole boxes some_is within (read value means inside is) = (
      box.name,
      (
        record { b = top_to after; i = 0; there = refl; has_name = refl; whole = whole_is within },
        record { value = value; means = means; payload = _; is = is },
      ),
    )
    this_whole boxes some_is within (skipped means small is) = absurd (some_is is)

    none_whole : (boxes : List TopBox) → (b.content ≡ Skipped → ⊥) → length xs < after
        → Holds xs box.name box.from after b.content
        → (name : BoxType) × (HasWhole xs boxes name × IsMeaning name b.content)
    none_whole boxes some_is past (read value means inside is) = absurd (omega (arith, past, inside))
    none_whole boxes some_is past (skipped means small is) = absurd (some_is is)

  abbrev Boxes : ℕ → List FileBox → Type 0
  Boxes place bs = (boxes : List TopBox) × (AreBoxes xs place boxes × AreWhole boxes bs)

  last_box : (place : ℕ) → EndsFile (length xs) xs place → Boxes place []
  unfolding AreBoxes
  last_box place (no_more past) = ([], (omega (arith, past), λ b i there some_is. absurd cc))
  last_box place (open_end room name from head) = (
    record { name = name; place = place; end = length xs } ∷ [],
    (
      (refl, (record { size = 0; from = from; head = head; end = refl }, omega arith)),
      λ b i there some_is. absurd cc,
    ),
  )

  cut_box : (place after next : ℕ) (b : FileBox) (bs : List FileBox) → IsFileBox (length xs) xs place after b
      → AreFileBoxes (length xs) xs after bs next → length xs < after → Boxes place (b ∷ bs)
  unfolding AreBoxes AreFileBoxes
  cut_box place after next b (c ∷ cs) box rest past = absurd (omega (arith, rest.1.begins.room, past))
  cut_box place after next b [] box rest past = (
    top_to place after b box (length xs) ∷ [],
    (
      (refl, (top_is place after b box (length xs) (omega (arith, past)), omega arith)),
      λ d i there some_is. by d i there some_is,
    ),
  )
    where
      by : (d : FileBox) (i : ℕ) → slice_get (b ∷ []) i ≡ Some d → (d.content ≡ Skipped → ⊥)
          → (name : BoxType) × (HasWhole xs (top_to place after b box (length xs) ∷ []) name × IsMeaning name d.content)
      by d zero there some_is =
          let same : b ≡ d = cc in
          subst (λ (e : FileBox). (e.content ≡ Skipped → ⊥) → (name : BoxType)
          × (HasWhole xs (top_to place after b box (length xs) ∷ []) name × IsMeaning name e.content)) same
          (λ some_here. none_whole place after b box _ some_here past box.holds) some_is
      by d (suc i) there some_is = absurd cc

  next_box : (place after : ℕ) (b : FileBox) (bs : List FileBox) → IsFileBox (length xs) xs place after b
      → after ≤ length xs → Boxes after bs → Boxes place (b ∷ bs)
  unfolding AreBoxes
  next_box place after b bs box within rest = (
    top_to place after b box after ∷ rest.0,
    ((refl, (top_is place after b box after (omega (arith, within)), rest.1.0)), by),
  )
    where
      by : (d : FileBox) (i : ℕ) → slice_get (b ∷ bs) i ≡ Some d → (d.content ≡ Skipped → ⊥)
          → (name : BoxType) × (HasWhole xs (top_to place after b box after ∷ rest.0) name × IsMeaning name d.content)
      by d zero there some_is =
          let same : b ≡ d = cc in
          subst (λ (e : FileBox). (e.content ≡ Skipped → ⊥) → (name : BoxType)
          × (HasWhole xs (top_to place after b box after ∷ rest.0) name × IsMeaning name e.content)) same
          (λ some_here. this_whole place after b box rest.0 some_here within box.holds) some_is
      by d (suc i) there some_is =
          let found = rest.1.1 d i there some_is in
          (found.0, (whole_later (top_to place after b box after) rest.0 found.0 found.1.0, found.1.1))

  all_boxes : (bs : List FileBox) (place next : ℕ) → AreFileBoxes (length xs) xs place bs next
      → EndsFile (length xs) xs next → Boxes place bs
  unfolding AreFileBoxes
  all_boxes [] place next are ends =
      last_box place (subst (λ n. EndsFile (length xs) xs n) are ends)
  all_boxes (b ∷ bs) place next are ends =
      by (nat_lt (length xs) are.0) refl (all_boxes bs are.0 next are.2 ends)
    where
      by : (past : Bool) → nat_lt (length xs) are.0 ≡ past → Boxes are.0 bs → Boxes place (b ∷ bs)
      by true is rest = cut_box place are.0 next b bs are.1 are.2 (ltb-true (length xs) are.0 is)
      by false is rest = next_box place are.0 b bs are.1 (ltb-false (length xs) are.0 is) rest

-- ONE OF A KIND

last_some : {A : Type 0} (xs : List A) (x : A) → last xs ≡ Some x → xs ≡ [] → ⊥
last_some xs x is none = let no = ap last none in absurd cc

-- where some are of a kind, one is
one_of_kind : {A B : Type 0} (kind : A → Option B) (xs : List A) → (filter_map kind xs ≡ [] → ⊥)
    → (x : A) × ((i : ℕ) × ((slice_get xs i ≡ Some x) × ((y : B) × (kind x ≡ Some y))))
one_of_kind kind [] some_is = absurd (some_is refl)
one_of_kind {A} {B} kind (x ∷ xs) some_is = by (kind x) refl (one_of_kind kind xs)
  where
    by : (o : Option B) → kind x ≡ o
        → ((filter_map kind xs ≡ [] → ⊥)
        → (z : A) × ((i : ℕ) × ((slice_get xs i ≡ Some z) × ((y : B) × (kind z ≡ Some y)))))
        → (z : A) × ((i : ℕ) × ((slice_get (x ∷ xs) i ≡ Some z) × ((y : B) × (kind z ≡ Some y))))
    by (Some y) is others = (x, (0, (refl, (y, is))))
    by None is others =
        let found = others (λ none. some_is (ap (λ o. cons_option o (filter_map kind xs)) is ∙ none)) in
        (found.0, (suc found.1.0, (found.1.1.0, found.1.1.1)))

is_ftyp : (c : BoxContent) (f : FtypBox) → ftyp_from c ≡ Some f → c ≡ Ftyp f
is_ftyp (Ftyp g) f is = cc
is_ftyp (Moov g) f is = absurd cc
is_ftyp (Moof g) f is = absurd cc
is_ftyp (Emsg g) f is = absurd cc
is_ftyp Skipped f is = absurd cc

is_moov : (c : BoxContent) (m : MoovBox) → moov_from c ≡ Some m → c ≡ Moov m
is_moov (Moov g) m is = cc
is_moov (Ftyp g) m is = absurd cc
is_moov (Moof g) m is = absurd cc
is_moov (Emsg g) m is = absurd cc
is_moov Skipped m is = absurd cc

named_whole : (xs : List ℕ) (boxes : List TopBox) (name : BoxType) → HasWhole xs boxes name → IsNamed name
named_whole xs boxes name h = (header_read (here xs h.b.place) _ (here xs h.whole.from) h.whole.head).named

-- the boxes of a file that opens
pub record AreOpened (xs : List ℕ) : Type 0 where
  pub boxes : List TopBox
  pub are : AreBoxes xs 0 boxes
  pub has_file_type : HasWhole xs boxes ftyp
  pub has_movie : HasWhole xs boxes moov

pub opened_boxes : (xs : List ℕ) (opened : OpenedFile) → IsFile (length xs) (here xs 0) opened → AreOpened xs
opened_boxes xs opened file =
    let all = all_boxes xs file.boxes 0 file.end file.are file.ends in
    let one = one_of_kind (λ (b : FileBox). ftyp_from b.content) file.boxes
    (last_some (ftyps_in file.boxes) opened.ftyp file.ftyp) in
    let other = one_of_kind (λ (b : FileBox). moov_from b.content) file.boxes
    (last_some (moovs_in file.boxes) opened.moov file.moov) in
    let one_is = is_ftyp one.0.content one.1.1.1.0 one.1.1.1.1 in
    let other_is = is_moov other.0.content other.1.1.1.0 other.1.1.1.1 in
    let first = all.1.1 one.0 one.1.0 one.1.1.0 (λ no. absurd (ftyp_read _ (sym one_is ∙ no))) in
    let second = all.1.1 other.0 other.1.0 other.1.1.0 (λ no. absurd (moov_read _ (sym other_is ∙ no))) in
    let type_is = ftyp_named first.0 one.1.1.1.0 (named_whole xs all.0 first.0 first.1.0)
    (subst (λ (c : BoxContent). IsMeaning first.0 c) one_is first.1.1) in
    let movie_is = moov_named second.0 other.1.1.1.0 (named_whole xs all.0 second.0 second.1.0)
    (subst (λ (c : BoxContent). IsMeaning second.0 c) other_is second.1.1) in
    record {
      boxes = all.0;
      are = all.1.0;
      has_file_type = subst (λ (n : BoxType). HasWhole xs all.0 n) type_is first.1.0;
      has_movie = subst (λ (n : BoxType). HasWhole xs all.0 n) movie_is second.1.0;
    }
  where
    ftyp_read : (f : FtypBox) → Ftyp f ≡ Skipped → ⊥
    ftyp_read f isnt = absurd cc

    moov_read : (m : MoovBox) → Moov m ≡ Skipped → ⊥
    moov_read m isnt = absurd cc
