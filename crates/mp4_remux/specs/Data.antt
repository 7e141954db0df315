-- The data of samples, closed up: the bytes of the samples of some tracks in the order of the file, each once, without
-- what lies between them (ISO/IEC 14496-12, 4.2, 8.1.1 and 8.7).
use Rattle.std.specs.Prelude.{◌≡◌, ◌⊎◌, ◌+◌, ◌-◌, ◌^◌, ◌<◌, ◌≤◌, ◌==◌, ◌&&◌, ⊤, ℕ, min, not, nat_lt, Bool, IsTrue}
use Rattle.std.specs.Prelude.{if◌then◌else◌, List, [], ◌∷◌, Some, Ok, slice_get}
use Rattle.std.specs.List.{list_any, sum_by}
use Rattle.mp4_codec.specs.BoxType.{code_of}
use Rattle.mp4_codec.specs.Bytes.{number, ◌⧺◌}
use Rattle.mp4_codec.specs.declared.box_type.BoxType.TheVariants.{MdatBox}
use Rattle.mp4_samples.specs.declared.sample.Place.{Place}
use Rattle.mp4_media.specs.FileBoxes.{OpenedFile}
use Rattle.mp4_remux.specs.Reads.{place_in}
use Rattle.mp4_remux.specs.Why.{HasSample}
use Rattle.mp4_remux.specs.declared.data.Extent.{Extent}
use Rattle.mp4_remux.specs.declared.moves.Move.{Move}

-- BYTES OF A FILE

-- the byte at this place of the file is one of these
abbrev pub has_byte : ℕ → Extent → Bool
has_byte byte e = not (nat_lt byte e.place) && nat_lt byte e.end

-- or one of those of several
abbrev pub have_byte : ℕ → List Extent → Bool
have_byte byte extents = list_any (has_byte byte) extents

-- there is one of these bytes, and they end within a file of so many
abbrev pub IsWithin : ℕ → Extent → Type 0
IsWithin len e = (e.place < e.end) × (e.end ≤ len)

-- they begin at this place or before
abbrev pub BeginsBy : ℕ → Extent → Type 0
BeginsBy place e = e.place ≤ place

-- Bytes of a file from a place on, in its order: each extent has a byte, and others are between it and the next.
unfoldable pub AreApartFrom : ℕ → List Extent → Type 0
AreApartFrom place [] = ⊤
AreApartFrom place (e ∷ es) = (place ≤ e.place) × ((e.place < e.end) × AreApartFrom (e.end + 1) es)

-- THE BYTES OF SAMPLES

-- A track has this byte: one of its samples has, which is at a number from 1 on, and so is one at each number before.
pub record IsTrackByte (opened : OpenedFile) (id byte : ℕ) : Type 0 where
  pub k : ℕ
  pub sample : Place
  pub counts : 1 ≤ k
  pub each : (j : ℕ) → 1 ≤ j → j < k → HasSample opened id j
  pub there : place_in opened id k ≡ Ok (Some sample)
  pub from : sample.offset ≤ byte
  pub to : byte < sample.offset + sample.size

-- one of these tracks has it
pub record IsDataByte (opened : OpenedFile) (ids : List ℕ) (byte : ℕ) : Type 0 where
  pub id : ℕ
  pub number : ℕ
  pub is : slice_get ids number ≡ Some id
  pub has : IsTrackByte opened id byte

-- These are the bytes of the samples of these tracks, in the order of the file, each once. They are such extents alone
-- (`data_once`).
pub record AreDataOf (opened : OpenedFile) (ids : List ℕ) (extents : List Extent) : Type 0 where
  pub apart : AreApartFrom 0 extents
  pub all : (byte : ℕ) → IsDataByte opened ids byte → IsTrue (have_byte byte extents)
  pub only : (byte : ℕ) → IsTrue (have_byte byte extents) → IsDataByte opened ids byte

-- the new extents have the bytes of the old ones, and those of which this is so
pub record AddsBytes (IsOne : ℕ → Type 0) (old new : List Extent) : Type 0 where
  pub stay : (byte : ℕ) → IsTrue (have_byte byte old) → IsTrue (have_byte byte new)
  pub all : (byte : ℕ) → IsOne byte → IsTrue (have_byte byte new)
  pub only : (byte : ℕ) → IsTrue (have_byte byte new) → IsTrue (have_byte byte old) ⊎ IsOne byte

-- CLOSED UP

-- how many bytes all these have
abbrev pub data_len : List Extent → ℕ
data_len extents = sum_by (λ e. e.end - e.place) extents

-- How many of these bytes come before a place: where the byte at that place is when they are closed up, counted from
-- the first of them.
abbrev pub closed_place : List Extent → ℕ → ℕ
closed_place extents place = sum_by (λ e. min place e.end - min place e.place) extents

-- where each extent is when they are closed up, after so many other bytes; the largest number where that passes 64 bits
unfoldable pub closed_moves : ℕ → List Extent → List Move
closed_moves before [] = []
closed_moves before (e ∷ es) =
    record { from = e.place; end = e.end; to = min (2 ^ 64 - 1) before }
    ∷ closed_moves (before + (e.end - e.place)) es

-- these moves say where each is of such extents
pub record AreClosedUp (extents : List Extent) (moves : List Move) : Type 0 where
  pub apart : AreApartFrom 0 extents
  pub are : moves ≡ closed_moves 0 extents

-- THEIR BOX

-- The header of a box of so much data, none where there is none: with its size in 4 bytes where it fits, or else in 8
-- after a size of 1 (4.2 and 8.1.1).
unfoldable pub data_header : ℕ → List ℕ
data_header len =
    if len == 0 then [] else
    if nat_lt (2 ^ 32 - 1) (8 + len)
    then number 4 1 ⧺ number 4 (code_of MdatBox) ⧺ number 8 (min (2 ^ 64 - 1) (16 + len))
    else number 4 (8 + len) ⧺ number 4 (code_of MdatBox)
