-- What a refusal says is so. A box that it names begins where it says, and is of a type that says what keeps a file
-- from being rewritten (ISO/IEC 14496-12, 4.2).
use Rattle.std.specs.Prelude.{◌≡◌, ◌+◌, ◌≤◌, ◌<◌, ◌⊎◌, ⊤, ℕ, List, [], ◌∷◌, length, take, drop, Option}
use Rattle.std.specs.Prelude.{Some, IfSome, Ok, slice_get}
use Rattle.mp4_codec.specs.BoxType.{code_of}
use Rattle.mp4_codec.specs.declared.box_type.BoxType.{BoxType}
use Rattle.mp4_codec.specs.declared.box_type.BoxType.TheVariants.{DrefBox, MoofBox, MfhdBox, TfhdBox, TfdtBox, TrunBox}
use Rattle.mp4_codec.specs.declared.box_type.BoxType.TheVariants.{FreeBox, FtypBox, MoovBox}
use Rattle.mp4_codec.specs.declared.header.BoxHeader.{BoxHeader}
use Rattle.mp4_codec.specs.Cursor.{Cursor, here, header_at}
use Rattle.mp4_media.specs.FileBoxes.{OpenedFile}
use Rattle.mp4_media.specs.FileGrammar.{IsFile}
use Rattle.mp4_remux.specs.Errors.{of_layout}
use Rattle.mp4_remux.specs.Front.{AreBoxes}
use Rattle.mp4_remux.specs.Kept.{IsAmong}
use Rattle.mp4_remux.specs.Why.{HasMore, HasSameIds, HasTooMany, IsApart, most_samples}
use Rattle.mp4_remux.specs.declared.layout_error.LayoutError.{LayoutError}
use Rattle.mp4_remux.specs.declared.top_level.TopBox.{TopBox}
use Rattle.mp4_remux.specs.declared.error.RemuxError.{RemuxError}
use Rattle.mp4_remux.specs.declared.error.RemuxError.TheVariants.{Mp4, Read, Write, Twice, SaysPlaces}
use Rattle.mp4_remux.specs.declared.error.RemuxError.TheVariants.{TooManySamples, OtherTracks, Differs}
use Rattle.mp4_remux.specs.declared.error.RemuxError.TheVariants.{SaysOfSamples, StartsElsewhere, SameIds}

-- a box of this type begins at a place
abbrev pub HasBox : List ℕ → BoxType → ℕ → Type 0
HasBox bytes name place = (head : BoxHeader × Cursor) × (header_at (here bytes place) ≡ Ok head)
    × (head.0.name ≡ name)

-- these bytes of a file end at a place
pub record EndsAt (file bytes : List ℕ) (end : ℕ) : Type 0 where
  pub start : ℕ
  pub there : start + length bytes ≡ end
  pub within : end ≤ length file
  pub bytes_are : take (length bytes) (drop start file) ≡ bytes

-- in whatever file these bytes end at a place, a box of this type begins at another
abbrev pub HasBoxWithin : List ℕ → ℕ → BoxType → ℕ → Type 0
HasBoxWithin bytes end name place = (file : List ℕ) → EndsAt file bytes end → HasBox file name place

-- one of these boxes has this type and this place
abbrev pub IsOneOf : List TopBox → BoxType → ℕ → Type 0
IsOneOf boxes name place = (b : TopBox) × (i : ℕ) × (slice_get boxes i ≡ Some b) × (b.name ≡ name)
    × (b.place ≡ place)

-- the types of boxes that say places in a movie box or in metadata: `iloc` (8.11.3), `saio` (8.7.9) and `dref` (8.7.2)
abbrev pub placing : List ℕ
placing = 0x696c6f63 ∷ 0x7361696f ∷ code_of DrefBox ∷ []

-- those of a file's boxes: `moof` (8.8.4), `mfra` (8.8.9) and `sidx` (8.16.3)
abbrev pub placing_others : List ℕ
placing_others = code_of MoofBox ∷ 0x6d667261 ∷ 0x73696478 ∷ []

-- those that say something of each sample: `sdtp` (8.6.4), `stdp` (8.5.3), `padb` (8.7.6), `saiz` (8.7.8), and `senc`
-- of ISO/IEC 23001-7
abbrev pub of_samples : List ℕ
of_samples = 0x73647470 ∷ 0x73746470 ∷ 0x70616462 ∷ 0x7361697a ∷ 0x73656e63 ∷ []

-- those of a fragment of which tables keep all: `mfhd`, `tfhd`, `tfdt`, `trun` (8.8), `free` and `skip` (8.1.2)
abbrev pub kept_by_tables : List ℕ
kept_by_tables = code_of MfhdBox ∷ code_of TfhdBox ∷ code_of TfdtBox ∷ code_of TrunBox ∷ code_of FreeBox ∷ 0x736b6970
    ∷ []

-- a box of this type says places, and one of that says more of samples than tables do
abbrev pub IsPlacing : BoxType → Type 0
IsPlacing name = IsAmong placing name ⊎ IsAmong placing_others name

abbrev pub IsOfSamples : BoxType → Type 0
IsOfSamples name = IsAmong of_samples name ⊎ (IsAmong kept_by_tables name → ⊥)

-- two of these boxes, one after the other, have this type
pub record AreTwo (boxes : List TopBox) (name : BoxType) : Type 0 where
  pub i : ℕ
  pub j : ℕ
  pub one : TopBox
  pub other : TopBox
  pub order : i < j
  pub first : slice_get boxes i ≡ Some one
  pub second : slice_get boxes j ≡ Some other
  pub has_name : one.name ≡ name
  pub also : other.name ≡ name

-- a file has two boxes of this type, which are in no other box
abbrev pub HasTwo : List ℕ → BoxType → Type 0
HasTwo bytes name = (boxes : List TopBox) × (AreBoxes bytes 0 boxes × AreTwo boxes name)

-- a file has one box of this type: `ftyp` (4.3) and `moov` (8.2.1)
abbrev pub IsSingle : BoxType → Type 0
IsSingle name = (name ≡ FtypBox) ⊎ (name ≡ MoovBox)

-- What a refusal says is so: of a box that it names, whose type is one of those; of a type of which it says that there
-- are two boxes; of a track of which it says that it has too many samples; and of a movie.
abbrev pub SaysBy : (BoxType → ℕ → Type 0) → (BoxType → Type 0) → (ℕ → Type 0) → ((OpenedFile → Type 0) → Type 0)
    → RemuxError → Type 0
SaysBy IsBox IsTwice IsMany IsOfMovie (Mp4 e) = ⊤
SaysBy IsBox IsTwice IsMany IsOfMovie (Read e) = ⊤
SaysBy IsBox IsTwice IsMany IsOfMovie (Write e) = ⊤
SaysBy IsBox IsTwice IsMany IsOfMovie (Twice name) = IsTwice name
SaysBy IsBox IsTwice IsMany IsOfMovie (SaysPlaces name place) = IsPlacing name × IsBox name place
SaysBy IsBox IsTwice IsMany IsOfMovie (TooManySamples track) = IsMany track
SaysBy IsBox IsTwice IsMany IsOfMovie (SaysOfSamples name place) = IsOfSamples name × IsBox name place
SaysBy IsBox IsTwice IsMany IsOfMovie (StartsElsewhere track number) = IsOfMovie (λ movie. IsApart movie track number)
SaysBy IsBox IsTwice IsMany IsOfMovie SameIds = IsOfMovie HasSameIds
SaysBy IsBox IsTwice IsMany IsOfMovie OtherTracks = ⊤
SaysBy IsBox IsTwice IsMany IsOfMovie (Differs track number) = ⊤

-- a refusal names a box of which this is so, or says nothing of that kind
abbrev pub NamesBy : (BoxType → ℕ → Type 0) → RemuxError → Type 0
NamesBy IsBox = SaysBy IsBox (λ name. ⊥) (λ track. ⊥) (λ IsSo. ⊥)

-- or it says that there are two boxes of a type of which this is so
abbrev pub SaysTwice : (BoxType → Type 0) → RemuxError → Type 0
SaysTwice IsTwice = SaysBy (λ name place. ⊥) IsTwice (λ track. ⊥) (λ IsSo. ⊥)

-- or it says that a track of which this is so has too many samples
abbrev pub SaysMany : (ℕ → Type 0) → RemuxError → Type 0
SaysMany IsMany = SaysBy (λ name place. ⊥) (λ name. ⊥) IsMany (λ IsSo. ⊥)

-- why no layout is made of these tracks of a movie, or one that was isn't written, where so many samples are compared
abbrev pub IsWhy : List ℕ → ℕ → OpenedFile → LayoutError → Type 0
IsWhy tracks most movie e =
    SaysBy (λ name place. ⊥) (λ name. ⊥) (HasMore tracks most movie) (λ IsSo. IsSo movie) (of_layout e)

-- or it is for nothing of that kind
abbrev pub SaysNone : LayoutError → Type 0
SaysNone e = NamesBy (λ name place. ⊥) (of_layout e)

-- these bytes are a file that opens to a movie of which this is so
abbrev pub OpensTo : (OpenedFile → Type 0) → List ℕ → Type 0
OpensTo IsSo xs = (movie : OpenedFile) × (IsFile (length xs) (here xs 0) movie × IsSo movie)

-- these bytes open to a movie in which the tracks with these ids have more samples, up to those of this one, than are
-- compared
abbrev pub HasManyOf : List ℕ → ℕ → List ℕ → Type 0
HasManyOf ids track xs = OpensTo (λ movie. HasMore ids (most_samples (length xs)) movie track) xs

-- where the bytes are known, what a refusal says is so: a box that it names begins where it says; of a type of which a
-- file has one box they have two; and the movie that they open to has more samples than they are bytes, up to those of
-- a track that it names, or is as it says
abbrev pub NamesBox : Option (List ℕ) → RemuxError → Type 0
NamesBox known =
    SaysBy (λ name place. IfSome known (λ xs. HasBox xs name place))
    (λ name. IsSingle name × IfSome known (λ xs. HasTwo xs name))
    (λ track. IfSome known (λ xs. OpensTo (λ movie. HasTooMany (length xs) movie track) xs))
    (λ IsSo. IfSome known (OpensTo IsSo))
