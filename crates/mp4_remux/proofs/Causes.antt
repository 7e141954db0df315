-- Why boxes of a file aren't read, and where they are.
use Rattle.std.proofs.Common.{◌≡◌, ◌∙◌, ◌⊎◌, inl, inr, ℕ, zero, suc, ◌+◌, ◌-◌, ◌==◌, ◌<◌, ◌≤◌, Bool, true, false}
use Rattle.std.proofs.Common.{if◌then◌else◌, min, nat_lt, List, [], ◌∷◌, length, Option, None, Some, IfNone, IfSome}
use Rattle.std.proofs.Common.{Ok, refl, sym, ap, subst, arith}
use Rattle.std.proofs.lemmas.Bool.{ltb-true, ltb-false}
use Rattle.std.specs.Prelude.{slice_get, slice_index_or}
use Rattle.mp4_codec.specs.Cursor.{Cursor, here, header_at}
use Rattle.mp4_codec.specs.declared.box_type.BoxType.{BoxType}
use Rattle.mp4_codec.specs.declared.box_type.BoxType.TheVariants.{FtypBox}
use Rattle.mp4_codec.specs.declared.error.Error.{Error}
use Rattle.mp4_codec.specs.declared.error.Error.TheVariants.{EndOfData, OutOfMemory}
use Rattle.mp4_codec.specs.declared.header.BoxHeader.{BoxHeader}
use Rattle.mp4_codec.proofs.HeadLaws.{header_read}
use Rattle.mp4_source.specs.Answers.{IsLength}
use Rattle.mp4_remux.specs.Caused.{CausedBy, CausedByMemory}
use Rattle.mp4_remux.specs.Front.{AreApart, AreBoxes, HasNone, IsBoxOf, IsOnly, IsTopBox}
use Rattle.mp4_remux.specs.declared.error.RemuxError.{RemuxError}
use Rattle.mp4_remux.specs.declared.error.RemuxError.TheVariants.{Mp4, Read, Write, Twice, SaysPlaces}
use Rattle.mp4_remux.specs.declared.error.RemuxError.TheVariants.{TooManySamples, OtherTracks, Differs}
use Rattle.mp4_remux.specs.declared.error.RemuxError.TheVariants.{SaysOfSamples, StartsElsewhere, SameIds}
use Rattle.mp4_remux.specs.declared.top_level.TopBox.{TopBox}
use Rattle.mp4_remux.specs.Named.{IsOneOf, NamesBy}
use Rattle.mp4_remux.proofs.Naming.{each_is_there, says_as}
use Rattle.mp4_remux.proofs.Numbered.{at_index}
use Rattle.mp4_remux.proofs.Sameness.{got, got_within}
use Rattle.mp4_remux.proofs.TopBoxes.{none_past}

-- REFUSALS

-- what is caused so is caused otherwise
pub caused_as : (P Q : Error → Type 0) (A B : Type 0) → ((error : Error) → P error → Q error) → (A → B)
    → (e : RemuxError) → CausedBy P A e → CausedBy Q B e
caused_as P Q A B also others (Mp4 error) caused = also error caused
caused_as P Q A B also others (Read error) caused = tt
caused_as P Q A B also others (Write error) caused = tt
caused_as P Q A B also others (Twice name) caused = tt
caused_as P Q A B also others (SaysPlaces name place) caused = tt
caused_as P Q A B also others (TooManySamples track) caused = tt
caused_as P Q A B also others (SaysOfSamples name place) caused = tt
caused_as P Q A B also others (StartsElsewhere track number) caused = tt
caused_as P Q A B also others SameIds caused = tt
caused_as P Q A B also others OtherTracks caused = others caused
caused_as P Q A B also others (Differs track number) caused = caused

-- what is caused by memory is caused by whatever has that
pub for_memory : (P : Error → Type 0) (A : Type 0) → P OutOfMemory → (e : RemuxError) → CausedByMemory e
    → CausedBy P A e
for_memory P A none e caused =
    caused_as (λ error. error ≡ OutOfMemory) P ⊥ A (λ error is. subst P (sym is) none) (λ no. absurd no) e caused

-- no box of this type is there, or memory ran out
abbrev pub IsCut : List ℕ → BoxType → TopBox → Error → Type 0
IsCut xs name one error = (error ≡ OutOfMemory) ⊎ ((error ≡ EndOfData) × (IsBoxOf xs name one → ⊥))

-- WHERE BOXES ARE

has_room : (xs : List ℕ) (place : ℕ) (x : BoxHeader × Cursor) → header_at (here xs place) ≡ Ok x
    → place + 8 ≤ length xs
has_room xs place x is = by (nat_lt (length xs) (place + 8)) refl
  where
    by : (b : Bool) → nat_lt (length xs) (place + 8) ≡ b → place + 8 ≤ length xs
    by true less = absurd (none_past xs place (ltb-true (length xs) (place + 8) less) x is)
    by false ge = ltb-false (length xs) (place + 8) ge

-- a box of a file has a byte, and ends with it or before
pub record IsWithin (xs : List ℕ) (b : TopBox) : Type 0 where
  pub moves : b.place < b.end
  pub within : b.end ≤ length xs

pub top_within : (xs : List ℕ) (b : TopBox) → IsTopBox xs b → IsWithin xs b
top_within xs b top = by (top.size == 0) refl
  where
    room : b.place + 8 ≤ length xs
    room = has_room xs b.place _ top.head

    moves : b.place + 8 ≤ top.from
    moves = (header_read (here xs b.place) _ (here xs top.from) top.head).moves

    by : (no_end : Bool) → (top.size == 0) ≡ no_end → IsWithin xs b
    by true is =
        let end : b.end ≡ length xs = top.end
        ∙ ap (λ (o : Bool). if o then length xs else min (top.from + (top.size - 8)) (length xs)) is in
        record { moves = omega (arith, end, room); within = omega (arith, end) }
    by false is =
        let end : b.end ≡ min (top.from + (top.size - 8)) (length xs) = top.end
        ∙ ap (λ (o : Bool). if o then length xs else min (top.from + (top.size - 8)) (length xs)) is in
        record { moves = omega (arith, end, room, moves); within = omega (arith, end) }

-- so it isn't refused as none
pub top_fits : (known : Option (List ℕ)) (len : ℕ) (b : TopBox) (e : RemuxError) → IsLength known len
    → (b.place + (b.end - b.place) ≤ len → ⊥) → IfSome known (λ xs. IsTopBox xs b → CausedByMemory e)
top_fits None len b e measured none = tt
top_fits (Some xs) len b e measured none = λ top.
    let box = top_within xs b top in absurd (none (omega (arith, box.moves, box.within, measured)))

-- boxes begin at the place of the first of them, or later
later : (xs : List ℕ) (from : ℕ) (boxes : List TopBox) → AreBoxes xs from boxes → (b : TopBox) (i : ℕ)
    → slice_get boxes i ≡ Some b → from ≤ b.place
unfolding AreBoxes
later xs from [] are b i there = absurd cc
later xs from (c ∷ cs) are b zero there =
    let same : c ≡ b = cc in subst (λ (d : TopBox). from ≤ d.place) same (omega (arith, are.0))
later xs from (c ∷ cs) are b (suc i) there =
    omega (arith, are.0, (top_within xs c are.1.0).moves, later xs c.end cs are.1.1 b i there)

-- each ends where a later one begins, or before
pub in_order : (xs : List ℕ) (from : ℕ) (boxes : List TopBox) → AreBoxes xs from boxes → (b c : TopBox) (i j : ℕ)
    → i < j → slice_get boxes i ≡ Some b → slice_get boxes j ≡ Some c → b.end ≤ c.place
unfolding AreBoxes
in_order xs from [] are b c i j lt there other = absurd cc
in_order xs from (d ∷ ds) are b c i zero lt there other = absurd (omega (arith, lt))
in_order xs from (d ∷ ds) are b c zero (suc j) lt there other =
    let same : d ≡ b = cc in
    subst (λ (e : TopBox). e.end ≤ c.place) same (later xs d.end ds are.1.1 c j other)
in_order xs from (d ∷ ds) are b c (suc i) (suc j) lt there other =
    in_order xs d.end ds are.1.1 b c i j (omega (arith, lt)) there other

-- two boxes of different types don't overlap
pub are_apart : (xs : List ℕ) (len : ℕ) (boxes : List TopBox) (b c : TopBox) (i j : ℕ) → len ≡ length xs
    → AreBoxes xs 0 boxes → slice_get boxes i ≡ Some b → slice_get boxes j ≡ Some c → (b.name ≡ c.name → ⊥)
    → AreApart len b c
are_apart xs len boxes b c i j is are there other differ =
    let one = top_within xs b (each_is_there xs 0 boxes are b i there) in
    let two = top_within xs c (each_is_there xs 0 boxes are c j other) in
    record {
      first = omega (arith, one.moves);
      within = omega (arith, one.within, is);
      second = omega (arith, two.moves);
      also = omega (arith, two.within, is);
      apart = by (nat_lt i j) (nat_lt j i) refl refl;
    }
  where
    by : (less more : Bool) → nat_lt i j ≡ less → nat_lt j i ≡ more → (b.end ≤ c.place) ⊎ (c.end ≤ b.place)
    by true more is isnt = inl (in_order xs 0 boxes are b c i j (ltb-true i j is) there other)
    by false true is isnt = inr (in_order xs 0 boxes are c b j i (ltb-true j i isnt) other there)
    by false false is isnt =
        let same : i ≡ j = omega (arith, ltb-false i j is, ltb-false j i isnt) in
        let found : slice_get boxes j ≡ Some b = subst (λ n. slice_get boxes n ≡ Some b) same there in
        let box : b ≡ c = cc in absurd (differ (ap (λ (d : TopBox). d.name) box))

-- a box, where any will do
abbrev pub some_box : TopBox
some_box = record { name = FtypBox; place = 0; end = 0 }

-- what is refused of a box of a file for memory alone, is so of all of them
pub each_caused : (known : Option (List ℕ)) (boxes : List TopBox) (i : ℕ) (d : TopBox) (e : RemuxError)
    → i < length boxes → IfSome known (λ xs. IsTopBox xs (slice_index_or boxes i d) → CausedByMemory e)
    → IfSome known (λ xs. AreBoxes xs 0 boxes → CausedByMemory e)
each_caused None boxes i d e inside caused = tt
each_caused (Some xs) boxes i d e inside caused = λ are.
    caused (each_is_there xs 0 boxes are (slice_index_or boxes i d) i (at_index boxes i d inside))

-- what is named of one of these boxes is named of them
pub one_named : (boxes : List TopBox) (i : ℕ) (d : TopBox) (e : RemuxError) → i < length boxes
    → NamesBy (λ name place. ((slice_index_or boxes i d).name ≡ name) × ((slice_index_or boxes i d).place ≡ place)) e
    → NamesBy (IsOneOf boxes) e
one_named boxes i d e inside says =
    says_as (λ name place. ((slice_index_or boxes i d).name ≡ name) × ((slice_index_or boxes i d).place ≡ place))
    (IsOneOf boxes) (λ name. ⊥) (λ name. ⊥) (λ track. ⊥) (λ track. ⊥) (λ IsSo. ⊥) (λ IsSo. ⊥)
    (λ name place is. (slice_index_or boxes i d, i, at_index boxes i d inside, is.0, is.1)) (λ name no. no)
    (λ track no. no) (λ IsSo no. no) e says

-- ONLY ONE BOX

-- of the first n boxes this is the only one of a type, or none has it
abbrev pub IsOnlyUntil : List TopBox → BoxType → ℕ → Option TopBox → Type 0
IsOnlyUntil boxes name n None = (c : TopBox) (j : ℕ) → j < n → slice_get boxes j ≡ Some c → c.name ≡ name → ⊥
IsOnlyUntil boxes name n (Some b) = (i : ℕ) × ((i < n) × ((slice_get boxes i ≡ Some b) × ((b.name ≡ name)
    × ((c : TopBox) (j : ℕ) → j < n → slice_get boxes j ≡ Some c → c.name ≡ name → j ≡ i))))

-- a number below the next one is below this one, or is it
below_or_at : (j n : ℕ) → j < n + 1 → (j < n) ⊎ (j ≡ n)
below_or_at j n lt = by (nat_lt j n) refl
  where
    by : (b : Bool) → nat_lt j n ≡ b → (j < n) ⊎ (j ≡ n)
    by true less = inl (ltb-true j n less)
    by false ge = inr (omega (arith, lt, ltb-false j n ge))

-- one more box has another type
pub only_still : (boxes : List TopBox) (name : BoxType) (n : ℕ) (d : TopBox) (found : Option TopBox) → n < length boxes
    → ((slice_index_or boxes n d).name ≡ name → ⊥) → IsOnlyUntil boxes name n found
    → IsOnlyUntil boxes name (n + 1) found
only_still boxes name n d None inside isnt only = λ c j lt there is. by c j there is (below_or_at j n lt)
  where
    by : (c : TopBox) (j : ℕ) → slice_get boxes j ≡ Some c → c.name ≡ name → (j < n) ⊎ (j ≡ n) → ⊥
    by c j there is (inl less) = only c j less there is
    by c j there is (inr same) =
        let at : slice_get boxes n ≡ Some c = subst (λ k. slice_get boxes k ≡ Some c) same there in
        isnt (ap (λ (b : TopBox). b.name) (got boxes n c d at) ∙ is)
only_still boxes name n d (Some b) inside isnt only = (
  only.0,
  (
    omega (arith, only.1.0),
    (only.1.1.0, (only.1.1.1.0, λ c j lt there is. by c j there is (below_or_at j n lt))),
  ),
)
  where
    by : (c : TopBox) (j : ℕ) → slice_get boxes j ≡ Some c → c.name ≡ name → (j < n) ⊎ (j ≡ n) → j ≡ only.0
    by c j there is (inl less) = only.1.1.1.1 c j less there is
    by c j there is (inr same) =
        let at : slice_get boxes n ≡ Some c = subst (λ k. slice_get boxes k ≡ Some c) same there in
        absurd (isnt (ap (λ (b : TopBox). b.name) (got boxes n c d at) ∙ is))

-- one more has this type, and none did before
pub only_first : (boxes : List TopBox) (name : BoxType) (n : ℕ) (d : TopBox) → n < length boxes
    → (slice_index_or boxes n d).name ≡ name → IsOnlyUntil boxes name n None
    → IsOnlyUntil boxes name (n + 1) (Some (slice_index_or boxes n d))
only_first boxes name n d inside is none = (
  n,
  (omega arith, (at_index boxes n d inside, (is, λ c j lt there has. by c j there has (below_or_at j n lt)))),
)
  where
    by : (c : TopBox) (j : ℕ) → slice_get boxes j ≡ Some c → c.name ≡ name → (j < n) ⊎ (j ≡ n) → j ≡ n
    by c j there has (inl less) = absurd (none c j less there has)
    by c j there has (inr same) = same

-- all were looked at
pub only_of_all : (boxes : List TopBox) (name : BoxType) (n : ℕ) (found : Option TopBox) → length boxes ≤ n
    → IsOnlyUntil boxes name n found → IfSome found (IsOnly boxes name)
only_of_all boxes name n None all only = tt
only_of_all boxes name n (Some b) all only = record {
  i = only.0;
  there = only.1.1.0;
  has_name = only.1.1.1.0;
  only = λ c j there is. only.1.1.1.1 c j (omega (arith, all, got_within boxes j c there)) there is;
}

pub none_of_all : (boxes : List TopBox) (name : BoxType) (n : ℕ) (found : Option TopBox) → length boxes ≤ n
    → IsOnlyUntil boxes name n found → IfNone found (HasNone boxes name)
none_of_all boxes name n None all only = λ c j there is.
    only c j (omega (arith, all, got_within boxes j c there)) there is
none_of_all boxes name n (Some b) all only = tt
