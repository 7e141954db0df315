-- What stays of a file beside the data of its samples (ISO/IEC 14496-12, 4.3, 8.1.1, 8.2.1, 8.8 and 8.16).
use Rattle.std.specs.Prelude.{◌≡◌, ◌⊎◌, ◌+◌, ◌-◌, ◌&&◌, not, ℕ, Bool, List, [], ◌∷◌}
use Rattle.std.specs.List.{filter, sum_by}
use Rattle.mp4_codec.specs.BoxType.{code_of}
use Rattle.mp4_codec.specs.declared.box_type.BoxType.{BoxType}
use Rattle.mp4_codec.specs.declared.box_type.BoxType.TheVariants.{FtypBox as ftyp, MoovBox as moov, MdatBox as mdat}
use Rattle.mp4_codec.specs.declared.box_type.BoxType.TheVariants.{MoofBox}
use Rattle.mp4_codec.specs.declared.error.Error.TheVariants.{OutOfMemory}
use Rattle.mp4_media.specs.FileGrammar.{between}
use Rattle.mp4_remux.specs.Caused.{CausedBy}
use Rattle.mp4_remux.specs.Front.{AreBoxes, HasNone}
use Rattle.mp4_remux.specs.Kept.{is_among}
use Rattle.mp4_remux.specs.PlannedFront.{IsNotWhole, IsTheBox}
use Rattle.mp4_remux.specs.ShownTimes.{in_64_bits}
use Rattle.mp4_remux.specs.declared.error.RemuxError.{RemuxError}
use Rattle.mp4_remux.specs.declared.frame.Frame.{Frame}
use Rattle.mp4_remux.specs.declared.top_level.TopBox.{TopBox}

-- the types of the boxes that go with fragments: `moof` (8.8.4), `mfra` (8.8.9), `sidx`, `ssix`, `styp` and `prft`
-- (8.16.2 to 8.16.5)
abbrev pub of_fragments : List ℕ
of_fragments = code_of MoofBox ∷ 0x6d667261 ∷ 0x73696478 ∷ 0x73736978 ∷ 0x73747970 ∷ 0x70726674 ∷ []

-- the file type, the movie box, and data
abbrev pub own_boxes : List ℕ
own_boxes = code_of ftyp ∷ code_of moov ∷ code_of mdat ∷ []

-- a box of this type stays beside the file type and the movie box: it is none of the data, and where fragments are
-- gathered, none that goes with them
abbrev pub stays_beside : Bool → BoxType → Bool
stays_beside gathered name = not (is_among own_boxes name) && not (gathered && is_among of_fragments name)

-- The frame is that of a file whose fragments are gathered or which has none: its file type, its movie box, with its
-- bytes, and the boxes that stay beside them, in their order.
pub record IsFrame (before : List ℕ) (gathered : Bool) (frame : Frame) : Type 0 where
  pub boxes : List TopBox
  pub are : AreBoxes before 0 boxes
  pub has_file_type : IsTheBox before boxes ftyp frame.file_type
  pub has_movie : IsTheBox before boxes moov frame.movie
  pub movie_is : frame.movie_bytes.items ≡ between before frame.movie.place frame.movie.end
  pub others : frame.others.items ≡ filter (λ b. stays_beside gathered b.name) boxes

-- how many bytes a box has
abbrev pub box_len : TopBox → ℕ
box_len b = b.end - b.place

-- where the data begins: after the file type, a movie box of so many bytes, the boxes that stay, and a header
abbrev pub data_begin : Frame → (movie_len header_len : ℕ) → ℕ
data_begin frame movie_len header_len =
    in_64_bits (in_64_bits (movie_len + box_len frame.file_type + sum_by box_len frame.others.items) + header_len)

-- Why a file with these boxes has no frame: out of memory; the file type or the movie box isn't whole; or there is none
-- of one of the two.
abbrev pub IsWhyNoFrame : List ℕ → List TopBox → RemuxError → Type 0
IsWhyNoFrame before boxes =
    CausedBy (λ error. (error ≡ OutOfMemory) ⊎ IsNotWhole before boxes error) (HasNone boxes ftyp ⊎ HasNone boxes moov)
