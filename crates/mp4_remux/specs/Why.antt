-- What a refusal says of the movie that a file opens to.
use Rattle.std.specs.Prelude.{◌≡◌, ◌+◌, ◌<◌, ◌⊎◌, ℕ, zero, suc, List, min, Some, Ok, slice_get}
use Rattle.mp4_boxes.specs.declared.trak.TrakBox.{TrakBox}
use Rattle.mp4_samples.specs.declared.sample.Place.{Place}
use Rattle.mp4_media.specs.FileBoxes.{OpenedFile}
use Rattle.mp4_remux.specs.Reads.{place_in}
use Rattle.mp4_remux.specs.Remuxed.{ids_of, kept_of}

-- two boxes of tracks of a movie, one after the other, have one id (ISO/IEC 14496-12, 8.3.2)
pub record HasSameIds (movie : OpenedFile) : Type 0 where
  pub i : ℕ
  pub j : ℕ
  pub one : TrakBox
  pub other : TrakBox
  pub order : i < j
  pub first : slice_get movie.moov.traks i ≡ Some one
  pub second : slice_get movie.moov.traks j ≡ Some other
  pub same : one.tkhd.track_id ≡ other.tkhd.track_id

-- the first k samples of a track end then: with the last of them, or at 0 where there are none (8.6.1.2)
abbrev pub EndsAfter : OpenedFile → ℕ → ℕ → ℕ → Type 0
EndsAfter movie track k end = ((k ≡ 0) × (end ≡ 0))
    ⊎ ((last : Place) × ((place_in movie track k ≡ Ok (Some last)) × (end ≡ last.start_time + last.duration)))

-- the sample at this number of a track doesn't start when the one before it ends, or the first at 0
pub record IsApart (movie : OpenedFile) (track number : ℕ) : Type 0 where
  pub before : ℕ
  pub end : ℕ
  pub sample : Place
  pub next : number ≡ before + 1
  pub ends : EndsAfter movie track before end
  pub there : place_in movie track number ≡ Ok (Some sample)
  pub apart : sample.start_time ≡ end → ⊥

-- a track has a sample at a number
abbrev pub HasSample : OpenedFile → ℕ → ℕ → Type 0
HasSample movie track number = (sample : Place) × (place_in movie track number ≡ Ok (Some sample))

-- a track has so many samples, or more: one is at that number, where it isn't 0
abbrev pub HasSamples : OpenedFile → ℕ → ℕ → Type 0
HasSamples movie track n = (n ≡ 0) ⊎ HasSample movie track n

-- the first so many of these tracks have n samples in all, or more
abbrev pub HaveSamples : OpenedFile → List ℕ → ℕ → ℕ → Type 0
HaveSamples movie tracks zero n = n ≡ 0
HaveSamples movie tracks (suc i) n = (track before own : ℕ) × ((slice_get tracks i ≡ Some track)
    × (HaveSamples movie tracks i before × (HasSamples movie track own × (n ≡ before + own))))

-- a track has a sample at a number which, with the samples of those of these tracks that come before it, is past most
pub record HasMore (tracks : List ℕ) (most : ℕ) (movie : OpenedFile) (track : ℕ) : Type 0 where
  pub i : ℕ
  pub before : ℕ
  pub number : ℕ
  pub is : slice_get tracks i ≡ Some track
  pub have : HaveSamples movie tracks i before
  pub there : HasSample movie track number
  pub more : most < before + number

-- of a file of so many bytes at most as many samples are compared, and at most as many as have numbers, less one
abbrev pub most_samples : ℕ → ℕ
most_samples len = min len 4294967294

-- these are tracks of a movie, in the order of their boxes
abbrev pub AreKept : OpenedFile → List ℕ → Type 0
AreKept movie tracks = (ids : List ℕ) × (tracks ≡ kept_of ids (ids_of movie.moov))

-- of a movie in a file of so many bytes, some tracks in the order of their boxes have more samples, up to those of this
-- one, than are compared
abbrev pub HasTooMany : ℕ → OpenedFile → ℕ → Type 0
HasTooMany len movie track = (tracks : List ℕ) × (AreKept movie tracks × HasMore tracks (most_samples len) movie track)
