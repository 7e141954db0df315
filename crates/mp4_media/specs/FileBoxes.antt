-- The boxes at the top level of a file: which are read, and what is taken of them (ISO/IEC 14496-12, 4.2 and 6.2).
use Rattle.std.specs.Prelude.{◌≡◌, ℕ, List, [], ◌∷◌, ◌++◌, Option, Some, None, Result, Ok, Bool, option_map, ◌==◌}
use Rattle.std.specs.Prelude.{if◌then◌else◌}
use Rattle.std.specs.List.{filter_map}
use Rattle.mp4_codec.specs.declared.box_type.BoxType.{BoxType}
use Rattle.mp4_codec.specs.declared.box_type.BoxType.TheVariants.{FtypBox as ftyp, MoovBox as moov, MoofBox as moof}
use Rattle.mp4_codec.specs.declared.box_type.BoxType.TheVariants.{EmsgBox as emsg}
use Rattle.mp4_codec.specs.BoxType.{code_of}
use Rattle.mp4_codec.specs.Cause.{Cause, ◌>>=◌}
use Rattle.mp4_leaf.specs.declared.ftyp.FtypBox.{FtypBox}
use Rattle.mp4_leaf.specs.Ftyp.{ftyp_of}
use Rattle.mp4_moof.specs.declared.emsg.EmsgBox.{EmsgBox}
use Rattle.mp4_moof.specs.Emsg.{emsg_of}
use Rattle.mp4_boxes.specs.declared.moov.MoovBox.{MoovBox}
use Rattle.mp4_moof.specs.declared.moof.MoofBox.{MoofBox}
use Rattle.mp4_boxes.specs.Moov.{moov_of}
use Rattle.mp4_moof.specs.Moof.{moof_of}
use Rattle.mp4_media.specs.declared.movie.Movie.{Movie}
use Rattle.mp4_media.specs.declared.reader.Mp4Reader.{Mp4Reader}

-- what a box of a file holds
pub data BoxContent : Type 0 where
  Ftyp : FtypBox → BoxContent
  Moov : MoovBox → BoxContent
  Moof : MoofBox → BoxContent
  Emsg : EmsgBox → BoxContent
  -- a box that isn't read
  Skipped : BoxContent

-- a box of a file, and the place of its first byte
pub record FileBox : Type 0 where
  pub place : ℕ
  pub content : BoxContent

-- whether a type is this one, by their codes
abbrev pub is_type : BoxType → BoxType → Bool
is_type t name = code_of name == code_of t

-- a value of a payload, as the content of a box of a file
abbrev pub read_as : {A : Type 0} → (A → BoxContent) → (List ℕ → Result A Cause) → List ℕ → Result BoxContent Cause
read_as kind value payload = value payload >>= λ b. Ok (kind b)

-- What the payload of a box of this type means, where the box is read: these types are, and all others are skipped.
unfoldable pub meaning_of : BoxType → Option (List ℕ → Result BoxContent Cause)
meaning_of name =
    if is_type ftyp name then Some (read_as Ftyp ftyp_of) else
    if is_type moov name then Some (read_as Moov moov_of) else
    if is_type moof name then Some (read_as Moof moof_of) else
    if is_type emsg name then Some (read_as Emsg emsg_of) else
    None

-- boxes of this type are read
abbrev pub IsRead : BoxType → Type 0
IsRead name = meaning_of name ≡ None → ⊥

abbrev pub ftyp_from : BoxContent → Option FtypBox
ftyp_from (Ftyp b) = Some b
ftyp_from other = None

abbrev pub moov_from : BoxContent → Option MoovBox
moov_from (Moov b) = Some b
moov_from other = None

abbrev pub moof_from : BoxContent → Option MoofBox
moof_from (Moof b) = Some b
moof_from other = None

abbrev pub emsg_from : BoxContent → Option EmsgBox
emsg_from (Emsg b) = Some b
emsg_from other = None

-- the place of a box, where it is a fragment
abbrev pub moof_place_from : FileBox → Option ℕ
moof_place_from b = option_map (λ _. b.place) (moof_from b.content)

-- the file types among the boxes of a file, in order
abbrev pub ftyps_in : List FileBox → List FtypBox
ftyps_in = filter_map (λ (b : FileBox). ftyp_from b.content)

-- the movies among them, in order
abbrev pub moovs_in : List FileBox → List MoovBox
moovs_in = filter_map (λ (b : FileBox). moov_from b.content)

-- the fragments among them, in order, and their places
abbrev pub moofs_in : List FileBox → List MoofBox
moofs_in = filter_map (λ (b : FileBox). moof_from b.content)

abbrev pub moof_places_in : List FileBox → List ℕ
moof_places_in = filter_map moof_place_from

-- the event messages among them, in order
abbrev pub emsgs_in : List FileBox → List EmsgBox
emsgs_in = filter_map (λ (b : FileBox). emsg_from b.content)

-- of a kind of which the last box counts: this one, where it is of the kind, and else what was before
abbrev pub later : {A : Type 0} → Option A → Option A → Option A
later (Some x) before = Some x
later None before = before

-- of a kind of which all boxes count: those before, and then this one, where it is of the kind
abbrev pub and_one : {A : Type 0} → List A → Option A → List A
and_one before (Some x) = before ++ x ∷ []
and_one before None = before

-- a file that was opened
pub record OpenedFile : Type 0 where
  pub ftyp : FtypBox
  pub moov : MoovBox
  pub moofs : List MoofBox
  -- the place of the first byte of each fragment
  pub moof_places : List ℕ
  pub emsgs : List EmsgBox
  -- the bytes from the place where it begins to the place where it ends
  pub size : ℕ

-- a movie, as the file that was opened
abbrev pub opened_movie : Movie → OpenedFile
opened_movie m = record {
  ftyp = m.ftyp;
  moov = m.moov;
  moofs = m.moofs;
  moof_places = m.moof_places;
  emsgs = m.emsgs;
  size = m.size;
}

-- a reader, as the file that it opened
abbrev pub opened_file : Mp4Reader → OpenedFile
opened_file r = opened_movie r.movie
