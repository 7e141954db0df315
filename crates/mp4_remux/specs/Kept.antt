-- A movie box in which some boxes are others: all else is there, byte for byte and in its order (ISO/IEC 14496-12,
-- 4.2).
use Rattle.std.specs.Prelude.{◌≡◌, ◌+◌, ◌++◌, ◌==◌, ℕ, Bool, List, [], ◌∷◌, length, IsTrue, Ok}
use Rattle.std.specs.List.{list_any}
use Rattle.mp4_codec.specs.BoxType.{code_of}
use Rattle.mp4_codec.specs.declared.box_type.BoxType.{BoxType}
use Rattle.mp4_codec.specs.declared.box_type.BoxType.TheVariants.{MoovBox, TrakBox, MdiaBox, MinfBox, StblBox}
use Rattle.mp4_codec.specs.declared.box_type.BoxType.TheVariants.{EdtsBox, MvhdBox, TkhdBox, MdhdBox, MvexBox}
use Rattle.mp4_codec.specs.declared.box_type.BoxType.TheVariants.{SttsBox, CttsBox, StssBox, StscBox, StszBox}
use Rattle.mp4_codec.specs.declared.box_type.BoxType.TheVariants.{StcoBox, Co64Box}
use Rattle.mp4_codec.specs.Cursor.{here, header_at}

-- bytes begin with a box of this type, whose header and payload these are, and other bytes come after it
pub record IsFirstBox (bytes : List ℕ) (name : BoxType) (header payload after : List ℕ) : Type 0 where
  pub head : header_at (here bytes 0)
      ≡ Ok (record { name = name; size = 8 + length payload }, here bytes (length header))
  pub all : bytes ≡ header ++ (payload ++ after)

-- the type is one of those with these codes
abbrev pub is_among : List ℕ → BoxType → Bool
is_among codes name = list_any (λ c. c == code_of name) codes

abbrev pub IsAmong : List ℕ → BoxType → Type 0
IsAmong codes name = IsTrue (is_among codes name)

-- the boxes that have boxes in them which may be others: from the movie box to each track's tables
abbrev pub entered : List ℕ
entered = code_of MoovBox ∷ code_of TrakBox ∷ code_of MdiaBox ∷ code_of MinfBox ∷ code_of StblBox ∷ []

-- Boxes with some codes may be others, left out, or more; boxes with others may be left out; in those that are entered
-- it is so too. All else is there as it was.
pub data IsKept (changing going : List ℕ) : List ℕ → List ℕ → Type 0 where
  same : (bytes : List ℕ) → IsKept changing going bytes bytes
  other : (before after rest : List ℕ) (name : BoxType) (header payload : List ℕ)
      → IsFirstBox before name header payload rest → IsAmong changing name
      → IsKept changing going rest after → IsKept changing going before after
  gone : (before after rest : List ℕ) (name : BoxType) (header payload : List ℕ)
      → IsFirstBox before name header payload rest → IsAmong going name
      → IsKept changing going rest after → IsKept changing going before after
  more : (before after rest : List ℕ) (name : BoxType) (header payload : List ℕ)
      → IsFirstBox after name header payload rest → IsAmong changing name
      → IsKept changing going before rest → IsKept changing going before after
  next : (before after rest rest_after : List ℕ) (name : BoxType) (header payload : List ℕ)
      → IsFirstBox before name header payload rest → IsFirstBox after name header payload rest_after
      → IsKept changing going rest rest_after → IsKept changing going before after
  inside : (before after rest rest_after : List ℕ) (name : BoxType) (header header_after payload payload_after : List ℕ)
      → IsFirstBox before name header payload rest → IsFirstBox after name header_after payload_after rest_after
      → IsAmong entered name → IsKept changing going payload payload_after
      → IsKept changing going rest rest_after → IsKept changing going before after

-- chunk offsets (8.7.5)
abbrev pub offsets : List ℕ
offsets = code_of StcoBox ∷ code_of Co64Box ∷ []

-- chunk offsets, the movie's header and the references of tracks ('tref', 8.3.3)
abbrev pub of_tracks : List ℕ
of_tracks = code_of MvhdBox ∷ 0x74726566 ∷ offsets

-- edit lists, all tables of samples ('stz2' too, 8.7.3.3), all headers with durations, references, and what is said of
-- fragments
abbrev pub of_tables : List ℕ
of_tables = code_of EdtsBox ∷ code_of MvexBox ∷ code_of TkhdBox ∷ code_of MdhdBox ∷ code_of SttsBox ∷ code_of CttsBox
    ∷ code_of StssBox ∷ code_of StscBox ∷ code_of StszBox ∷ 0x73747a32 ∷ of_tracks

-- tracks
abbrev pub tracks : List ℕ
tracks = code_of TrakBox ∷ []
