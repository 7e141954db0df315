-- Why a movie isn't written whose fragments are gathered, or some of whose tracks are chosen: a sample of it would be
-- another.
use Rattle.std.specs.Prelude.{◌≡◌, ◌+◌, ◌<◌, ◌⊎◌, ℕ, List, length, Some, Ok, slice_get}
use Rattle.mp4_samples.specs.declared.sample.Place.{Place}
use Rattle.mp4_media.specs.FileBoxes.{OpenedFile}
use Rattle.mp4_remux.specs.Gathered.{IsRebuilt}
use Rattle.mp4_remux.specs.Headers.{made_of}
use Rattle.mp4_remux.specs.Named.{OpensTo}
use Rattle.mp4_remux.specs.Reads.{place_in}
use Rattle.mp4_remux.specs.Refused.{IsOtherSample}
use Rattle.mp4_remux.specs.Splice.{spliced}
use Rattle.mp4_remux.specs.declared.piece.Piece.{Piece}
use Rattle.mp4_remux.specs.declared.reference.Reference.{Reference}

-- a sample of one of these tracks isn't whole in its file, which has so many bytes
pub record IsCutSample (len : ℕ) (ids : List ℕ) (opened : OpenedFile) (id k : ℕ) : Type 0 where
  pub number : ℕ
  pub is : slice_get ids number ≡ Some id
  pub place : Place
  pub there : place_in opened id k ≡ Ok (Some place)
  pub cut : len < place.offset + place.size

-- A file is rebuilt with those of its tracks that have these ids, and what was made of it opens; and one of them has at
-- number k another sample than it had.
pub record IsOtherRebuilt (before : List ℕ) (opened : OpenedFile) (all ids : List ℕ) (id k : ℕ) : Type 0 where
  pub made : List ℕ
  pub pieces : List Piece
  pub left_out : List Reference
  pub rebuilt : IsRebuilt (made_of opened) before (spliced before made pieces) all ids left_out
  pub other : OpensTo (λ rewritten. IsOtherSample ids pieces (length before)
      (length (spliced before made pieces)) opened rewritten id k) (spliced before made pieces)

-- a sample of one of these tracks can't be kept
abbrev pub IsNotKept : List ℕ → OpenedFile → List ℕ → List ℕ → ℕ → ℕ → Type 0
IsNotKept before opened all ids id k =
    IsCutSample (length before) ids opened id k ⊎ IsOtherRebuilt before opened all ids id k
