-- Boxes that are found among the bytes of a file begin where they are said to.
use Rattle.std.proofs.Common.{◌≡◌, ◌∙◌, ℕ, zero, suc, ◌+◌, ◌-◌, ◌≤◌, ◌==◌, ◌++◌, Bool, true, false, nat_lt}
use Rattle.std.proofs.Common.{List, [], ◌∷◌, length, take, drop, Option, None, Some, IfSome, Result, Ok, Err}
use Rattle.std.proofs.Common.{inr, if◌then◌else◌, refl, sym, ap, subst, arith, take-take, drop-drop}
use Rattle.std.proofs.lemmas.Bool.{eqb-true, le-ltb, ltb-false, ltb-true}
use Rattle.std.proofs.lemmas.List.{drop-take, length-append, length-drop, length-take-le, take-append-drop}
use Rattle.std.proofs.lemmas.List.{take_rest}
use Rattle.std.specs.Prelude.{IsTrue, slice_get}
use Rattle.std.specs.List.{list_any}
use Rattle.byteorder.specs.Endian.{big_number}
use Rattle.mp4_codec.specs.BoxType.{box_type, code_of}
use Rattle.mp4_codec.specs.Cause.{Cause, end_of_data, ◌>>=◌}
use Rattle.mp4_codec.specs.Cursor.{Cursor, Head, here, take_at, head_with, head_after, head_at, header_at, reported}
use Rattle.mp4_codec.specs.Steps.{ok_is, both_steps}
use Rattle.mp4_codec.specs.declared.box_type.BoxType.{BoxType}
use Rattle.mp4_codec.specs.declared.header.BoxHeader.{BoxHeader}
use Rattle.mp4_media.specs.FileGrammar.{IsFile, between}
use Rattle.mp4_source.specs.Answers.{IsLength}
use Rattle.mp4_source.specs.Source.{IsPartOf}
use Rattle.mp4_remux.specs.declared.error.RemuxError.{RemuxError}
use Rattle.mp4_remux.specs.declared.error.RemuxError.TheVariants.{Mp4, Read, Write, Twice, SaysPlaces}
use Rattle.mp4_remux.specs.declared.error.RemuxError.TheVariants.{TooManySamples, OtherTracks, Differs}
use Rattle.mp4_remux.specs.declared.error.RemuxError.TheVariants.{SaysOfSamples, StartsElsewhere, SameIds}
use Rattle.mp4_remux.specs.declared.top_level.TopBox.{TopBox}
use Rattle.mp4_remux.specs.Front.{AreBoxes, IsTopBox}
use Rattle.mp4_remux.specs.Kept.{IsFirstBox}
use Rattle.mp4_remux.specs.Named.{AreTwo, EndsAt, HasBox, HasBoxWithin, HasTwo, IsOneOf, IsPlacing, IsSingle, NamesBox}
use Rattle.mp4_remux.specs.Named.{IsWhy, HasManyOf, NamesBy, OpensTo, SaysBy, SaysMany, SaysNone, SaysTwice}
use Rattle.mp4_remux.specs.Named.{placing_others}
use Rattle.mp4_remux.specs.Why.{AreKept, HasMore, HasSameIds, HasTooMany, HaveSamples, IsApart, most_samples}
use Rattle.mp4_remux.specs.Errors.{of_layout}
use Rattle.mp4_remux.specs.declared.layout_error.LayoutError.{LayoutError}
use Rattle.mp4_media.specs.FileBoxes.{OpenedFile}
use Rattle.mp4_remux.proofs.Counting.{more_among}

-- HEADERS

module _ (file rest : List ℕ) (start : ℕ) (within : start + length rest ≤ length file)
    (is : take (length rest) (drop start file) ≡ rest)
  where
    -- what is after p bytes of these
    after : (p n : ℕ) → p + n ≤ length rest → take n (drop p rest) ≡ take n (drop (start + p) file)
    after p n fits =
        let left = length rest - p in
        let cut : drop p rest ≡ take left (drop (start + p) file) =
        ap (drop p) (sym is ∙ ap (λ k. take k (drop start file)) (omega (arith, fits)))
        ∙ drop-take p left (drop start file) ∙ ap (take left) (drop-drop p start file) in
        ap (take n) cut ∙ take-take n left (drop (start + p) file) (omega (arith, fits))

    -- what is taken of them
    taken : (p n : ℕ) (x : List ℕ × Cursor) → take_at n (here rest p) ≡ Ok x
        → (take_at n (here file (start + p)) ≡ Ok (x.0, here file (start + p + n))) × (x.1 ≡ here rest (p + n))
    taken p n x e = by (nat_lt (length rest) (p + n)) refl e
      where
        by : (b : Bool) → nat_lt (length rest) (p + n) ≡ b
            → (if b then Err end_of_data else Ok (take n (drop p rest), here rest (p + n))) ≡ Ok x
            → (take_at n (here file (start + p)) ≡ Ok (x.0, here file (start + p + n))) × (x.1 ≡ here rest (p + n))
        by true short e = absurd cc
        by false long e =
            let fits = ltb-false (length rest) (p + n) long in
            let same = ok_is (take n (drop p rest), here rest (p + n)) x e in
            let bytes : take n (drop (start + p) file) ≡ x.0 =
            sym (after p n fits) ∙ ap (λ (y : List ℕ × Cursor). y.0) same in (
              rw (le-ltb (length file) (start + p + n) (omega (arith, fits, within)))
                  (ap (λ (ys : List ℕ). Ok (ys, here file (start + p + n))) bytes),
              sym (ap (λ (y : List ℕ × Cursor). y.1) same),
            )

    size_there : (name : BoxType) (size : ℕ) (x : Head × Cursor) → head_after name size (here rest 8) ≡ Ok x
        → (c : Cursor) × (head_after name size (here file (start + 8)) ≡ Ok (x.0, c))
    size_there name size x e = by (size == 1) e
      where
        long : List ℕ × Cursor → Result (Head × Cursor) Cause
        long large = head_with name 16 (big_number 8 large.0) >>= λ head. Ok (head, large.1)

        by : (b : Bool)
            → (if b then (take_at 8 (here rest 8) >>= long)
            else (head_with name 8 size >>= λ head. Ok (head, here rest 8))) ≡ Ok x
            → (c : Cursor) × ((if b then (take_at 8 (here file (start + 8)) >>= long)
            else (head_with name 8 size >>= λ head. Ok (head, here file (start + 8)))) ≡ Ok (x.0, c))
        by true e =
            let s = both_steps (take_at 8 (here rest 8)) long x e in
            let t = taken 8 8 s.0 s.1 in
            let h = both_steps (head_with name 16 (big_number 8 s.0.0)) (λ head. Ok (head, s.0.1)) x s.2 in
            let head : h.0 ≡ x.0 = ap (λ (y : Head × Cursor). y.0) (ok_is (h.0, s.0.1) x h.2) in (
              here file (start + 8 + 8),
              rw (t.0, h.1) (ap (λ (y : Head). Ok (y, here file (start + 8 + 8))) head),
            )
        by false e =
            let h = both_steps (head_with name 8 size) (λ head. Ok (head, here rest 8)) x e in
            let head : h.0 ≡ x.0 = ap (λ (y : Head × Cursor). y.0) (ok_is (h.0, here rest 8) x h.2) in (
              here file (start + 8),
              rw h.1 (ap (λ (y : Head). Ok (y, here file (start + 8))) head),
            )

    -- a header with which they begin is there
    pub header_there : (h : BoxHeader) (c : Cursor) → header_at (here rest 0) ≡ Ok (h, c) → HasBox file h.name start
    unfolding head_at
    header_there h c e =
        let one = both_steps (head_at (here rest 0)) (λ (x : Head × Cursor). Ok (reported x.0, x.1)) (h, c) e in
        let two = both_steps (take_at 8 (here rest 0))
        (λ (x : List ℕ × Cursor). head_after (box_type (big_number 4 (drop 4 x.0))) (big_number 4 x.0) x.1)
        one.0 one.1 in
        let t = taken 0 8 two.0 two.1 in
        let s = size_there (box_type (big_number 4 (drop 4 two.0.0))) (big_number 4 two.0.0) one.0
        (subst (λ (d : Cursor). head_after (box_type (big_number 4 (drop 4 two.0.0))) (big_number 4 two.0.0) d
        ≡ Ok one.0) t.1 two.2) in
        let begin : start + 0 ≡ start = omega arith in
        let first : take_at 8 (here file start) ≡ Ok (two.0.0, here file (start + 8)) =
        rw begin at t.0 in (
          (reported one.0.0, s.0),
          ap (λ r. (r >>= λ (x : List ℕ × Cursor). head_after (box_type (big_number 4 (drop 4 x.0)))
              (big_number 4 x.0) x.1) >>= λ (y : Head × Cursor). Ok (reported y.0, y.1)) first
              ∙ ap (λ r. r >>= λ (y : Head × Cursor). Ok (reported y.0, y.1)) s.1,
          ap (λ (y : BoxHeader × Cursor). y.0.name) (ok_is (reported one.0.0, one.0.1) (h, c) one.2),
        )

-- PARTS OF BYTES

prefix : (ys b c : List ℕ) → take (length (b ++ c)) ys ≡ b ++ c → take (length b) ys ≡ b
prefix ys [] c is = refl
prefix [] (x ∷ b) c is = absurd cc
prefix (y ∷ ys) (x ∷ b) c is =
    let head : y ≡ x = cc in
    let tail : take (length (b ++ c)) ys ≡ b ++ c = cc in
    rw head (ap (λ (zs : List ℕ). x ∷ zs) (prefix ys b c tail))

part : (ys a b c : List ℕ) → take (length (a ++ (b ++ c))) ys ≡ a ++ (b ++ c) → take (length b) (drop (length a) ys) ≡ b
part ys [] b c is = prefix ys b c is
part [] (x ∷ a) b c is = absurd cc
part (y ∷ ys) (x ∷ a) b c is =
    let tail : take (length (a ++ (b ++ c))) ys ≡ a ++ (b ++ c) = cc in part ys a b c tail

-- bytes between others of a file
part_ends : (file bytes a b c : List ℕ) (end : ℕ) → bytes ≡ a ++ (b ++ c) → EndsAt file bytes end
    → EndsAt file b (end - length c)
part_ends file bytes a b c end all at =
    let e : EndsAt file (a ++ (b ++ c)) end = subst (λ (ys : List ℕ). EndsAt file ys end) all at in
    let long = length-append a (b ++ c) in
    let short = length-append b c in
    record {
      start = e.start + length a;
      there = omega (arith, e.there, long, short);
      within = omega (arith, e.within);
      bytes_are = sym (ap (take (length b)) (drop-drop (length a) e.start file))
          ∙ part (drop e.start file) a b c e.bytes_are;
    }

none_after : (xs : List ℕ) → xs ++ [] ≡ xs
none_after [] = refl
none_after (x ∷ xs) = ap (λ (ys : List ℕ). x ∷ ys) (none_after xs)

-- the last of them
last_ends : (file bytes a b : List ℕ) (end : ℕ) → bytes ≡ a ++ b → EndsAt file bytes end → EndsAt file b end
last_ends file bytes a b end all at =
    let same : end - 0 ≡ end = omega arith in
    subst (λ n. EndsAt file b n) same
    (part_ends file bytes a b [] end (all ∙ ap (λ (ys : List ℕ). a ++ ys) (sym (none_after b))) at)

two_parts : (a b c : List ℕ) → a ++ (b ++ c) ≡ (a ++ b) ++ c
two_parts [] b c = refl
two_parts (x ∷ a) b c = ap (λ (ys : List ℕ). x ∷ ys) (two_parts a b c)

module _ (rest : List ℕ) (name : BoxType) (header payload after : List ℕ)
    (first : IsFirstBox rest name header payload after) (end : ℕ)
  where
    -- a box with which bytes begin is there
    pub first_named : HasBoxWithin rest end name (end - length after - (length header + length payload))
    first_named file at =
        let long = length-append header (payload ++ after) in
        let short = length-append payload after in
        let whole = ap length first.all in
        let place : end - length after - (length header + length payload) ≡ at.start =
        omega (arith, at.there, long, short, whole) in
        rw place (header_there file rest at.start (omega (arith, at.there, at.within)) at.bytes_are _ _ first.head)

    -- what is named in its payload, or in the end of that
    pub inner_named : (skipped inner : List ℕ) (n : BoxType) (p : ℕ) → payload ≡ skipped ++ inner
        → HasBoxWithin inner (end - length after) n p → HasBoxWithin rest end n p
    inner_named skipped inner n p is named file at =
        named file (part_ends file rest (header ++ skipped) inner after end
        (first.all ∙ ap (λ (ys : List ℕ). header ++ (ys ++ after)) is
        ∙ ap (λ (ys : List ℕ). header ++ ys) (sym (two_parts skipped inner after))
        ∙ two_parts header skipped (inner ++ after)) at)

    -- what is named after it
    pub later_named : (n : BoxType) (p : ℕ) → HasBoxWithin after end n p → HasBoxWithin rest end n p
    later_named n p named file at =
        named file (last_ends file rest (header ++ payload) after end
        (first.all ∙ two_parts header payload after) at)

-- the last bytes of others
pub all_but : (n : ℕ) (xs : List ℕ) → (skipped : List ℕ) × (xs ≡ skipped ++ take (length xs - n) (drop n xs))
all_but n xs = (
  take n xs,
  sym (take-append-drop n xs) ∙ ap (λ (ys : List ℕ). take n xs ++ ys) (sym (take_rest xs n)),
)

-- bytes between two places of a file end at the second
pub between_ends : (file : List ℕ) (place end : ℕ) → place + (end - place) ≤ length file
    → EndsAt file (between file place end) end
between_ends file place end fits = by (nat_lt end place) refl
  where
    by : (b : Bool) → nat_lt end place ≡ b → EndsAt file (between file place end) end
    by true less =
        let lt = ltb-true end place less in
        let none : 0 ≡ end - place = omega (arith, lt) in
        subst (λ n. EndsAt file (take n (drop place file)) end) none (record {
          start = end;
          there = omega arith;
          within = omega (arith, lt, fits);
          bytes_are = refl;
        })
    by false ge =
        let le = ltb-false end place ge in
        let long : length (take (end - place) (drop place file)) ≡ end - place =
        length-take-le (end - place) (drop place file) (omega (arith, length-drop place file, fits)) in
        record {
          start = place;
          there = omega (arith, le, long);
          within = omega (arith, le, fits);
          bytes_are = ap (λ n. take n (drop place file)) long;
        }

pub part_is_there : (known : Option (List ℕ)) (len place end : ℕ) (bytes : List ℕ) → IsLength known len
    → place + (end - place) ≤ len → IsPartOf known place (end - place) bytes
    → IfSome known (λ xs. EndsAt xs bytes end)
part_is_there None len place end bytes measured fits read = tt
part_is_there (Some xs) len place end bytes measured fits read =
    subst (λ (ys : List ℕ). EndsAt xs ys end) (sym read.1) (between_ends xs place end (omega (arith, measured, fits)))

-- what is named in bytes of a file is there
pub within_known : (known : Option (List ℕ)) (bytes : List ℕ) (end : ℕ) → IfSome known (λ xs. EndsAt xs bytes end)
    → (name : BoxType) (place : ℕ) → HasBoxWithin bytes end name place → IfSome known (λ xs. HasBox xs name place)
within_known None bytes end at name place named = tt
within_known (Some xs) bytes end at name place named = named xs at

-- so is each of the file's boxes
pub each_is_there : (xs : List ℕ) (from : ℕ) (boxes : List TopBox) → AreBoxes xs from boxes → (b : TopBox) (i : ℕ)
    → slice_get boxes i ≡ Some b → IsTopBox xs b
unfolding AreBoxes
each_is_there xs from [] are b i there = absurd cc
each_is_there xs from (c ∷ cs) are b zero there =
    let same : c ≡ b = cc in subst (λ (d : TopBox). IsTopBox xs d) same are.1.0
each_is_there xs from (c ∷ cs) are b (suc i) there = each_is_there xs c.end cs are.1.1 b i there

pub one_of_known : (known : Option (List ℕ)) (boxes : List TopBox) → IfSome known (λ xs. AreBoxes xs 0 boxes)
    → (name : BoxType) (place : ℕ) → IsOneOf boxes name place → IfSome known (λ xs. HasBox xs name place)
one_of_known None boxes are name place one = tt
one_of_known (Some xs) boxes are name place one =
    let top = each_is_there xs 0 boxes are one.0 one.1 one.2 in (
      (record { name = one.0.name; size = top.size }, here xs top.from),
      subst (λ n. header_at (here xs n) ≡ Ok (record { name = one.0.name; size = top.size }, here xs top.from)) one.4
          top.head,
      one.3,
    )

-- TYPES OF BOXES

pub index_places : (name : BoxType) (code : ℕ) → code ≡ code_of name → IsTrue (code == 0x73696478) → IsPlacing name
index_places name code is same = by (code == 0x73696478) refl same
  where
    by : (b : Bool) → (code == 0x73696478) ≡ b → IsTrue b → IsPlacing name
    by true e t =
        let named : 0x73696478 ≡ code_of name = sym (eqb-true code 0x73696478 e) ∙ is in
        inr (subst (λ n. IsTrue (list_any (λ c. c == n) placing_others)) named cc)
    by false e t = absurd cc

-- REFUSALS

-- what is said of a box that is named, of two boxes of a type, of a track and of a movie, is said of another
pub says_as : (P Q : BoxType → ℕ → Type 0) (T U : BoxType → Type 0) (A B : ℕ → Type 0)
    (M N : (OpenedFile → Type 0) → Type 0) → ((name : BoxType) (place : ℕ) → P name place → Q name place)
    → ((name : BoxType) → T name → U name) → ((track : ℕ) → A track → B track)
    → ((IsSo : OpenedFile → Type 0) → M IsSo → N IsSo) → (e : RemuxError) → SaysBy P T A M e → SaysBy Q U B N e
says_as P Q T U A B M N also both many movie (Mp4 e) says = tt
says_as P Q T U A B M N also both many movie (Read e) says = tt
says_as P Q T U A B M N also both many movie (Write e) says = tt
says_as P Q T U A B M N also both many movie (Twice name) says = both name says
says_as P Q T U A B M N also both many movie (SaysPlaces name place) says = (says.0, also name place says.1)
says_as P Q T U A B M N also both many movie (TooManySamples track) says = many track says
says_as P Q T U A B M N also both many movie (SaysOfSamples name place) says = (says.0, also name place says.1)
says_as P Q T U A B M N also both many movie (StartsElsewhere track number) says =
    movie (λ o. IsApart o track number) says
says_as P Q T U A B M N also both many movie SameIds says = movie HasSameIds says
says_as P Q T U A B M N also both many movie OtherTracks says = tt
says_as P Q T U A B M N also both many movie (Differs track number) says = tt

-- what is known of a box that is named, of a type of which there are two boxes, of a track and of a movie
abbrev BoxKnown : Option (List ℕ) → BoxType → ℕ → Type 0
BoxKnown known name place = IfSome known (λ xs. HasBox xs name place)

abbrev TwiceKnown : Option (List ℕ) → BoxType → Type 0
TwiceKnown known name = IsSingle name × IfSome known (λ xs. HasTwo xs name)

abbrev ManyKnown : Option (List ℕ) → ℕ → Type 0
ManyKnown known track = IfSome known (λ xs. OpensTo (λ movie. HasTooMany (length xs) movie track) xs)

abbrev MovieKnown : Option (List ℕ) → (OpenedFile → Type 0) → Type 0
MovieKnown known IsSo = IfSome known (OpensTo IsSo)

abbrev NoBox : BoxType → ℕ → Type 0
NoBox name place = ⊥

abbrev NoType : BoxType → Type 0
NoType name = ⊥

abbrev NoTrack : ℕ → Type 0
NoTrack track = ⊥

abbrev NoMovie : (OpenedFile → Type 0) → Type 0
NoMovie IsSo = ⊥

-- a box that is named is there
pub names_known : (known : Option (List ℕ)) (P : BoxType → ℕ → Type 0)
    → ((name : BoxType) (place : ℕ) → P name place → IfSome known (λ xs. HasBox xs name place)) → (e : RemuxError)
    → NamesBy P e → NamesBox known e
names_known known P also e says =
    says_as P (BoxKnown known) NoType (TwiceKnown known) NoTrack (ManyKnown known) NoMovie (MovieKnown known) also
    (λ name no. absurd no) (λ track no. absurd no) (λ IsSo no. absurd no) e says

-- two boxes of a type are there
pub twice_known : (known : Option (List ℕ)) (boxes : List TopBox) (name : BoxType)
    → IfSome known (λ xs. AreBoxes xs 0 boxes) → IsSingle name → (e : RemuxError)
    → SaysTwice (λ n. (n ≡ name) × AreTwo boxes n) e → NamesBox known e
twice_known known boxes name are single e says =
    says_as NoBox (BoxKnown known) (λ n. (n ≡ name) × AreTwo boxes n) (TwiceKnown known) NoTrack (ManyKnown known)
    NoMovie (MovieKnown known) (λ n place no. absurd no) (by known are) (λ track no. absurd no)
    (λ IsSo no. absurd no) e says
  where
    by : (known : Option (List ℕ)) → IfSome known (λ xs. AreBoxes xs 0 boxes) → (n : BoxType)
        → (n ≡ name) × AreTwo boxes n → IsSingle n × IfSome known (λ xs. HasTwo xs n)
    by None are n two = (subst IsSingle (sym two.0) single, tt)
    by (Some xs) are n two = (subst IsSingle (sym two.0) single, (boxes, (are, two.1)))

-- a movie is the one that the known bytes open to
pub why_known : (known : Option (List ℕ)) (len : ℕ) (movie : OpenedFile) (tracks : List ℕ) → IsLength known len
    → IfSome known (λ xs. IsFile (length xs) (here xs 0) movie) → AreKept movie tracks → (e : LayoutError)
    → IsWhy tracks (most_samples len) movie e → NamesBox known (of_layout e)
why_known known len movie tracks measured opened kept e why =
    says_as NoBox (BoxKnown known) NoType (TwiceKnown known) (HasMore tracks (most_samples len) movie)
    (ManyKnown known) (λ IsSo. IsSo movie) (MovieKnown known) (λ n place no. absurd no) (λ n no. absurd no)
    (many known measured opened) (so known opened) (of_layout e) why
  where
    so : (known : Option (List ℕ)) → IfSome known (λ xs. IsFile (length xs) (here xs 0) movie)
        → (IsSo : OpenedFile → Type 0) → IsSo movie → IfSome known (OpensTo IsSo)
    so None opened IsSo is = tt
    so (Some xs) opened IsSo is = (movie, (opened, is))

    many : (known : Option (List ℕ)) → IsLength known len
        → IfSome known (λ xs. IsFile (length xs) (here xs 0) movie) → (track : ℕ)
        → HasMore tracks (most_samples len) movie track
        → IfSome known (λ xs. OpensTo (λ o. HasTooMany (length xs) o track) xs)
    many None measured opened track more = tt
    many (Some xs) measured opened track more = (
      movie,
      (
        opened,
        (tracks, (kept, subst (λ n. HasMore tracks (most_samples n) movie track) measured more)),
      ),
    )

-- what is for nothing of a movie is for whatever of it
pub why_anyhow : (tracks : List ℕ) (most : ℕ) (movie : OpenedFile) (e : LayoutError) → SaysNone e
    → IsWhy tracks most movie e
why_anyhow tracks most movie e says =
    says_as NoBox NoBox NoType NoType NoTrack (HasMore tracks most movie) NoMovie (λ IsSo. IsSo movie)
    (λ n place no. no) (λ n no. no) (λ track no. absurd no) (λ IsSo no. absurd no) (of_layout e) says

-- why no layout is made of one track is why none is made of several
pub why_among : (t left most : ℕ) (tracks : List ℕ) (movie : OpenedFile) (i n : ℕ) → slice_get tracks i ≡ Some t
    → HaveSamples movie tracks i n → most ≡ left + n → (e : LayoutError) → IsWhy (t ∷ []) left movie e
    → IsWhy tracks most movie e
why_among t left most tracks movie i n there have is e why =
    says_as NoBox NoBox NoType NoType (HasMore (t ∷ []) left movie) (HasMore tracks most movie) (λ IsSo. IsSo movie)
    (λ IsSo. IsSo movie) (λ name place no. no) (λ name no. no) (more_among t left most tracks movie i n there have is)
    (λ IsSo so. so) (of_layout e) why

-- a refusal for nothing of that kind is one for too many samples whatever these are
pub many_anyhow : (IsMany : ℕ → Type 0) (e : RemuxError) → NamesBy (λ name place. ⊥) e → SaysMany IsMany e
many_anyhow IsMany e says =
    says_as NoBox NoBox NoType NoType NoTrack IsMany NoMovie NoMovie (λ name place no. no) (λ name no. no)
    (λ track no. absurd no) (λ IsSo no. no) e says

-- one for those of a track among others
pub many_known : (known : Option (List ℕ)) (len : ℕ) (movie : OpenedFile) (ids : List ℕ) (t left i n : ℕ)
    → IsLength known len → IfSome known (λ xs. IsFile (length xs) (here xs 0) movie) → slice_get ids i ≡ Some t
    → HaveSamples movie ids i n → most_samples len ≡ left + n → (e : RemuxError)
    → SaysMany (HasMore (t ∷ []) left movie) e → SaysMany (λ track. IfSome known (HasManyOf ids track)) e
many_known known len movie ids t left i n measured opened there have is e says =
    says_as NoBox NoBox NoType NoType (HasMore (t ∷ []) left movie) (λ track. IfSome known (HasManyOf ids track))
    NoMovie NoMovie (λ name place no. no) (λ name no. no)
    (λ track more. by known measured opened track
    (more_among t left (most_samples len) ids movie i n there have is track more)) (λ IsSo no. no) e says
  where
    by : (known : Option (List ℕ)) → IsLength known len
        → IfSome known (λ xs. IsFile (length xs) (here xs 0) movie) → (track : ℕ)
        → HasMore ids (most_samples len) movie track → IfSome known (HasManyOf ids track)
    by None measured opened track more = tt
    by (Some xs) measured opened track more =
        (movie, (opened, subst (λ k. HasMore ids (most_samples k) movie track) measured more))
