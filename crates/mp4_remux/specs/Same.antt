-- Whether a sample is read as before, of a movie that was opened from its file and from a splice of it.
use Rattle.std.specs.Prelude.{◌≡◌, ⊤, ℕ, Bool, List, length, Option, None, Some, Ok}
use Rattle.mp4_samples.specs.declared.sample.Place.{Place}
use Rattle.mp4_samples.specs.Samples.{TimedSample, read_in}
use Rattle.mp4_media.specs.FileBoxes.{OpenedFile}
use Rattle.mp4_remux.specs.declared.piece.Piece.{Piece}
use Rattle.mp4_remux.specs.Remuxed.{IsSameNumber, IsSameTrack}
use Rattle.mp4_remux.specs.Splice.{IsMovedTo, spliced}

-- the same sample is at a place of a file of so many bytes, and at one of its splice
abbrev pub IsSamePlace : ℕ → List ℕ → List Piece → Place → Place → Type 0
IsSamePlace source_len made pieces before after = (source : List ℕ) → length source ≡ source_len
    → (s : TimedSample) × ((read_in source (Some before) ≡ Ok (Some s))
    × (read_in (spliced source made pieces) (Some after) ≡ Ok (Some s)))

-- a sample of the splice is one of the file, with its times and marks (8.6)
pub record IsMovedSample (pieces : List Piece) (source_len len : ℕ) (before after : Place) : Type 0 where
  pub size : after.size ≡ before.size
  pub start_time : after.start_time ≡ before.start_time
  pub duration : after.duration ≡ before.duration
  pub rendering_offset : after.rendering_offset ≡ before.rendering_offset
  pub is_sync : after.is_sync ≡ before.is_sync
  pub bytes : IsMovedTo pieces source_len len after.offset before.offset before.size

-- the splice has such a sample where the file has one, and none where it has none
abbrev pub IsSameAt : List Piece → ℕ → ℕ → Option Place → Option Place → Type 0
IsSameAt pieces source_len len None None = ⊤
IsSameAt pieces source_len len None (Some after) = ⊥
IsSameAt pieces source_len len (Some before) None = ⊥
IsSameAt pieces source_len len (Some before) (Some after) = IsMovedSample pieces source_len len before after

-- number k is read as before, whatever the bytes of the file are
abbrev pub IsNumberAsBefore : ℕ → List ℕ → List Piece → OpenedFile → OpenedFile → ℕ → ℕ → Bool → Type 0
IsNumberAsBefore source_len made pieces opened rewritten id k there = (source : List ℕ) → length source ≡ source_len
    → IsSameNumber source (spliced source made pieces) opened rewritten id k there

-- so is the track with this id
abbrev pub IsTrackAsBefore : ℕ → List ℕ → List Piece → OpenedFile → OpenedFile → ℕ → Type 0
IsTrackAsBefore source_len made pieces opened rewritten id = (source : List ℕ) → length source ≡ source_len
    → IsSameTrack source (spliced source made pieces) opened rewritten id
