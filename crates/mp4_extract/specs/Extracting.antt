-- The samples of a track, one after the other.
use Rattle.std.specs.Prelude.{◌≡◌, ◌⊎◌, ℕ, zero, suc, ◌+◌, ◌^◌, ◌<◌, ◌≤◌, Bool, true, false, IsTrue, not}
use Rattle.std.specs.Prelude.{◌==◌, ◌&&◌, ◌||◌, nat_le}
use Rattle.std.specs.Prelude.{List, [], ◌++◌, length, Option, Some, None, IfSome, Result, Ok, Err}
use Rattle.std.specs.HashMap.{HashMap}
use Rattle.std.specs.Io.KnownBytes.{Appends}
use Rattle.std.specs.declared.io.Error.{Error as IoError}
use Rattle.mp4_codec.specs.Cause.{Cause, cause_of}
use Rattle.mp4_codec.specs.declared.error.Error.{Error}
use Rattle.mp4_codec.specs.declared.error.Error.TheVariants.{TrakNotFound}
use Rattle.mp4_moof.specs.declared.mvex.MvexBox.{MvexBox}
use Rattle.mp4_lookup.specs.declared.track.Mp4Track.{Mp4Track}
use Rattle.mp4_samples.specs.declared.sample.Place.{Place}
use Rattle.mp4_samples.specs.Samples.{TimedSample}
use Rattle.mp4_media.specs.MovieTracks.{at_id}
use Rattle.mp4_media.specs.Reading.{located_in, placed_at, placed_in, sample_count_in, sample_in}
use Rattle.mp4_extract.specs.declared.descriptions.OtherSample.{OtherSample}
use Rattle.mp4_extract.specs.declared.error.ExtractError.{ExtractError}
use Rattle.mp4_extract.specs.declared.error.ExtractError.TheVariants.{OutOfMemory, Track, WrongFormat, NoSuchSample}
use Rattle.mp4_extract.specs.declared.error.ExtractError.TheVariants.{OtherDescription, Sample, Read, Write}
use Rattle.mp4_extract.specs.declared.form.SampleForm.{SampleForm}
use Rattle.mp4_extract.specs.declared.format.SampleFormat.{SampleFormat}
use Rattle.mp4_extract.specs.Descriptions.{other_for}
use Rattle.mp4_extract.specs.Errors.{of_track}
use Rattle.mp4_extract.specs.Forms.{IsFormOf, IsInForm, NeedsRoom, RefusesSample, RefusesTrack}

-- the answer of a lookup of a sample
abbrev pub Answer : Type 0
Answer = Result (Option TimedSample) Cause

-- what may be answered of a sample
abbrev pub Reading : Type 1
Reading = Answer → Type 0

-- an answer is of the place that is found, whatever bytes lie there: a sample has as many as its place says
abbrev pub IsOfPlace : Result (Option Place) Cause → Reading
IsOfPlace placed (Ok (Some s)) = (offset : ℕ) × (placed ≡ Ok (Some (placed_at offset s)))
IsOfPlace placed (Ok None) = placed ≡ Ok None
IsOfPlace placed (Err c) = placed ≡ Err c

-- there is a sample
abbrev pub IsThere : Reading → Type 0
IsThere reading = (s : TimedSample) × reading (Ok (Some s))

-- these bytes are the sample that was read, in a form
abbrev pub IsSampleIn : SampleForm → Reading → List ℕ → Type 0
IsSampleIn form reading bytes = (s : TimedSample) × (reading (Ok (Some s))) × (IsInForm form s.sample.bytes bytes)

-- these bytes are those of n samples from number k on in a form, in their order, joined
abbrev pub AreSamplesIn : SampleForm → (ℕ → Reading) → ℕ → ℕ → List ℕ → Type 0
AreSamplesIn form readings k zero bytes = bytes ≡ []
AreSamplesIn form readings k (suc n) bytes =
    (before : List ℕ) × (last : List ℕ) × (AreSamplesIn form readings k n before)
    × (IsSampleIn form (readings (k + n)) last) × (bytes ≡ before ++ last)

-- a sink that held some bytes holds the sample that was read too
abbrev pub HasSample : SampleForm → Reading → Option (List ℕ) → Option (List ℕ) → Type 0
HasSample form reading old new = (bytes : List ℕ) × (IsSampleIn form reading bytes) × (Appends old new bytes)

-- a sample was written, or there is none
abbrev pub IsWritten : SampleForm → Reading → Option (List ℕ) → Option (List ℕ) → Bool → Type 0
IsWritten form reading old new true = HasSample form reading old new
IsWritten form reading old new false = (reading (Ok None)) × (new ≡ old)

-- n samples from number k on were written
abbrev pub AreWritten : SampleForm → (ℕ → Reading) → ℕ → Option (List ℕ) → Option (List ℕ) → ℕ → Type 0
AreWritten form readings k old new n =
    (bytes : List ℕ) × (AreSamplesIn form readings k n bytes) × (Appends old new bytes)

-- no sample has this number, or it passes the numbers of samples
abbrev pub IsPastEnd : (ℕ → Reading) → ℕ → Type 0
IsPastEnd readings k = (2 ^ 32 ≤ k) ⊎ (readings k (Ok None))

-- bytes are a front of others
abbrev pub IsFrontOf : List ℕ → List ℕ → Type 0
IsFrontOf whole front = (rest : List ℕ) × (whole ≡ front ++ rest)

-- a sink that held some bytes holds a front of others too
abbrev pub HasFront : List ℕ → Option (List ℕ) → Option (List ℕ) → Type 0
HasFront whole old new = (front : List ℕ) × (IsFrontOf whole front) × (Appends old new front)

-- a sink that held some bytes was to hold others too: after Ok it does, and after a refusal it holds a front of them
abbrev pub IsPut : List ℕ → Option (List ℕ) → Option (List ℕ) → Result (Unit {0}) IoError → Type 0
IsPut bytes old new (Ok done) = Appends old new bytes
IsPut bytes old new (Err e) = HasFront bytes old new

-- where a sample lies, where its lookup answers it
abbrev pub offset_of : Result (Option Place) Cause → Option ℕ
offset_of (Ok (Some p)) = Some p.offset
offset_of (Ok None) = None
offset_of (Err c) = None

-- for this error is a sample with number k, which lies at this place, and whose bytes were read, refused, where a
-- buffer has room for so many bytes
abbrev pub RefusesStored : SampleForm → ℕ → List ℕ → ℕ → ℕ → ExtractError → Type 0
RefusesStored form room sample k offset OutOfMemory = NeedsRoom form room sample
RefusesStored form room sample k offset (Sample number place e) =
    (number ≡ k) × (place ≡ Some offset) × (RefusesSample form sample e)
RefusesStored form room sample k offset (Write number e) = number ≡ k
RefusesStored form room sample k offset (Read number e) = ⊥
RefusesStored form room sample k offset (Track e) = ⊥
RefusesStored form room sample k offset (WrongFormat id format) = ⊥
RefusesStored form room sample k offset (NoSuchSample id number count) = ⊥
RefusesStored form room sample k offset (OtherDescription number description format) = ⊥

-- a source may refuse to read bytes that it has: one whose bytes are known only where it says so
abbrev pub MayRefuse : Option (List ℕ) → Bool → Type 0
MayRefuse known can_refuse = IfSome known (λ _. IsTrue can_refuse)

-- For this error is the sample with number k refused, which lies at this place where that is known: by the file, or for
-- a cause by which what is wanted of its bytes isn't there. Only where there is a sample does the source refuse it, and
-- is memory wanted; the sink refuses it only where it is written.
abbrev pub RefusesOne : (TimedSample → Error → Type 0) → Type 0 → Reading → Option ℕ → ℕ → Type 0 → ExtractError
    → Type 0
RefusesOne refuses written reading offset k may_refuse OutOfMemory = IsThere reading
RefusesOne refuses written reading offset k may_refuse (Sample number place e) =
    (number ≡ k) × (place ≡ offset)
    × ((reading (Err (cause_of e))) ⊎ ((s : TimedSample) × (reading (Ok (Some s))) × (refuses s e)))
RefusesOne refuses written reading offset k may_refuse (Read number e) = (number ≡ k) × (IsThere reading) × may_refuse
RefusesOne refuses written reading offset k may_refuse (Write number e) = (number ≡ k) × written
RefusesOne refuses written reading offset k may_refuse (Track e) = ⊥
RefusesOne refuses written reading offset k may_refuse (WrongFormat id format) = ⊥
RefusesOne refuses written reading offset k may_refuse (NoSuchSample id number count) = ⊥
RefusesOne refuses written reading offset k may_refuse (OtherDescription number description format) = ⊥

-- the same of a sample that is written where there is one: it may have no such form
abbrev pub RefusesNumber : SampleForm → Reading → Option ℕ → ℕ → Type 0 → ExtractError → Type 0
RefusesNumber form reading offset k may_refuse e =
    RefusesOne (λ s. RefusesSample form s.sample.bytes) (IsThere reading) reading offset k may_refuse e

-- memory is wanted for a sample: a buffer has no room for its bytes, or memory is wanted for what is made of them
abbrev pub WantsRoomFor : (TimedSample → Type 0) → ℕ → Reading → Type 0
WantsRoomFor wants stored reading =
    (s : TimedSample) × (reading (Ok (Some s))) × ((stored < length s.sample.bytes) ⊎ (wants s))

-- one of two buffers, for what is stored and for what is written, has no room for a sample
abbrev pub WantsRoom : SampleForm → ℕ → ℕ → Reading → Type 0
WantsRoom form stored turned reading = WantsRoomFor (λ s. NeedsRoom form turned s.sample.bytes) stored reading

-- the sink refused the samples from this number on
abbrev pub IsWriteOf : ℕ → ExtractError → Type 0
IsWriteOf k (Write number e) = number ≡ k
IsWriteOf k OutOfMemory = ⊥
IsWriteOf k (Sample number place e) = ⊥
IsWriteOf k (Read number e) = ⊥
IsWriteOf k (Track e) = ⊥
IsWriteOf k (WrongFormat id format) = ⊥
IsWriteOf k (NoSuchSample id number count) = ⊥
IsWriteOf k (OtherDescription number description format) = ⊥

-- n samples from number k on were written, and a front of those after them, so that all are `most` at most
abbrev pub AreWrittenInPart : SampleForm → (ℕ → Reading) → ℕ → ℕ → ℕ → Option (List ℕ) → Option (List ℕ) → Type 0
AreWrittenInPart form readings k most n old new =
    (bytes : List ℕ) × (AreSamplesIn form readings k n bytes)
    × (m : ℕ) × (n + m ≤ most) × (others : List ℕ) × (AreSamplesIn form readings (k + n) m others)
    × (front : List ℕ) × (IsFrontOf others front) × (Appends old new (bytes ++ front))

-- after this error of number k + n a sink holds just the n samples from number k on; where it refused itself, also a
-- front of those after them that were to be written
abbrev pub HoldsAfter : SampleForm → (ℕ → Reading) → ℕ → ℕ → ℕ → Option (List ℕ) → Option (List ℕ) → ExtractError
    → Type 0
HoldsAfter form readings k most n old new (Write number e) = AreWrittenInPart form readings k most n old new
HoldsAfter form readings k most n old new OutOfMemory = AreWritten form readings k old new n
HoldsAfter form readings k most n old new (Sample number place e) = AreWritten form readings k old new n
HoldsAfter form readings k most n old new (Read number e) = AreWritten form readings k old new n
HoldsAfter form readings k most n old new (Track e) = AreWritten form readings k old new n
HoldsAfter form readings k most n old new (WrongFormat id format) = AreWritten form readings k old new n
HoldsAfter form readings k most n old new (NoSuchSample id number count) = AreWritten form readings k old new n
HoldsAfter form readings k most n old new (OtherDescription number description format) =
    AreWritten form readings k old new n

-- after this error, of a sample whose bytes were read, a sink holds what it held; where it refused itself, also a front
-- of these bytes, which are the sample in its form
abbrev pub HoldsStored : SampleForm → List ℕ → Option (List ℕ) → Option (List ℕ) → ExtractError → Type 0
HoldsStored form sample old new (Write number e) =
    (bytes : List ℕ) × (IsInForm form sample bytes) × (HasFront bytes old new)
HoldsStored form sample old new OutOfMemory = Appends old new []
HoldsStored form sample old new (Sample number place e) = Appends old new []
HoldsStored form sample old new (Read number e) = Appends old new []
HoldsStored form sample old new (Track e) = Appends old new []
HoldsStored form sample old new (WrongFormat id format) = Appends old new []
HoldsStored form sample old new (NoSuchSample id number count) = Appends old new []
HoldsStored form sample old new (OtherDescription number description format) = Appends old new []

-- For this error are samples refused that go from a number on, `most` at most: of one of them, before which all are
-- written, and the sink holds just those.
abbrev pub RefusesOneFrom : SampleForm → (ℕ → Reading) → (ℕ → Option ℕ) → ℕ → ℕ → Type 0
    → Option (List ℕ) → Option (List ℕ) → ExtractError → Type 0
RefusesOneFrom form readings offsets from most may_refuse old new e =
    (n : ℕ) × (n < most)
    × (RefusesNumber form (readings (from + n)) (offsets (from + n)) (from + n) may_refuse e)
    × (HoldsAfter form readings from most n old new e)

-- whether number k is that of one of so many samples; where there are none, they would begin with number 1
abbrev pub has_number : ℕ → ℕ → Bool
has_number count k = nat_le 1 k && (nat_le k count || (count == 0 && k == 1))

module _ {S : Type 0} where
  -- What may be read at number k of the track with this id, in a file of so many bytes: where these are known, just the
  -- sample that they hold there.
  abbrev pub IsReadIn : Option (List ℕ) → ℕ → HashMap ℕ Mp4Track S → ℕ → ℕ → Reading
  IsReadIn known len tracks id k answer =
      (IsOfPlace (placed_in len tracks id k) answer) × (IfSome known (λ source. sample_in source tracks id k ≡ answer))

  -- this is the form of the samples of the track with this id in a format
  abbrev pub IsFormIn : HashMap ℕ Mp4Track S → ℕ → SampleFormat → SampleForm → Type 0
  IsFormIn tracks id format form =
      (t : Mp4Track) × (at_id tracks id ≡ Some t) × (IsFormOf t.trak format form)

  -- n samples of the track with this id were written in a format, from number k on
  abbrev pub AreExtracted : SampleFormat → (ℕ → Reading) → HashMap ℕ Mp4Track S → ℕ → ℕ
      → Option (List ℕ) → Option (List ℕ) → ℕ → Type 0
  AreExtracted format readings tracks id k old new n =
      (form : SampleForm) × (IsFormIn tracks id format form) × (AreWritten form readings k old new n)

  -- for this error is the track with this id refused: there is none, or it has no form in the format
  abbrev pub RefusesTrackIn : HashMap ℕ Mp4Track S → ℕ → SampleFormat → ExtractError → Type 0
  RefusesTrackIn tracks id format e =
      ((e ≡ Track (TrakNotFound id)) × (at_id tracks id ≡ None))
      ⊎ ((t : Mp4Track) × (at_id tracks id ≡ Some t) × (RefusesTrack t.trak format e))

  -- where sample k of the track with this id lies
  abbrev pub offset_in : HashMap ℕ Mp4Track S → ℕ → ℕ → Option ℕ
  offset_in tracks id k = offset_of (located_in tracks id k)

  -- the track with this id has no sample that the format refuses for its description
  abbrev pub AreDescribed : SampleFormat → HashMap ℕ Mp4Track S → ℕ → Option MvexBox → Type 0
  AreDescribed format tracks id mvex =
      (t : Mp4Track) × (at_id tracks id ≡ Some t) × (other_for format t.trak t.trafs mvex ≡ None)

  -- the track with this id has a form in the format
  abbrev pub HasForm : SampleFormat → HashMap ℕ Mp4Track S → ℕ → Type 0
  HasForm format tracks id = (form : SampleForm) × (IsFormIn tracks id format form)

  -- for this error is the track with this id refused, although it has a form in the format: a sample, the first such,
  -- has another description than the first
  abbrev pub RefusesDescription : SampleFormat → HashMap ℕ Mp4Track S → ℕ → Option MvexBox → ExtractError → Type 0
  RefusesDescription format tracks id mvex e =
      (HasForm format tracks id)
      × (t : Mp4Track) × (at_id tracks id ≡ Some t) × (o : OtherSample)
      × (other_for format t.trak t.trafs mvex ≡ Some o) × (e ≡ OtherDescription o.number o.description format)

  -- for this error are the samples of the track with this id not gone over from number k on: they are too many to be
  -- counted, or none has that number
  abbrev pub RefusesFirst : HashMap ℕ Mp4Track S → ℕ → ℕ → ExtractError → Type 0
  RefusesFirst tracks id k e =
      ((c : Error) × (e ≡ of_track c) × (sample_count_in tracks id ≡ Err (cause_of c)))
      ⊎ ((count : ℕ) × (e ≡ NoSuchSample id k count) × (sample_count_in tracks id ≡ Ok count)
      × (has_number count k ≡ false))

  -- the samples of the track with this id can be gone over from number k on, of which there are some or none
  abbrev pub BeginsAt : HashMap ℕ Mp4Track S → ℕ → ℕ → Bool → Type 0
  BeginsAt tracks id k has_samples =
      (count : ℕ) × (sample_count_in tracks id ≡ Ok count) × (has_number count k ≡ true)
      × (has_samples ≡ not (count == 0))

  -- the track with this id has no samples
  abbrev pub HasNone : HashMap ℕ Mp4Track S → ℕ → Type 0
  HasNone tracks id = sample_count_in tracks id ≡ Ok 0

  -- the track with this id is written in the format: it has a form, and no sample has another description
  abbrev pub IsTrackWritten : SampleFormat → HashMap ℕ Mp4Track S → ℕ → Option MvexBox → Type 0
  IsTrackWritten format tracks id mvex = (HasForm format tracks id) × (AreDescribed format tracks id mvex)

  -- for this error is the track refused, or its samples from a number on: of these three the first that refuses
  abbrev pub RefusesAsked : SampleFormat → HashMap ℕ Mp4Track S → Option MvexBox → ℕ → ℕ → ExtractError → Type 0
  RefusesAsked format tracks mvex id from e =
      (RefusesTrackIn tracks id format e) ⊎ (RefusesDescription format tracks id mvex e)
      ⊎ ((IsTrackWritten format tracks id mvex) × (RefusesFirst tracks id from e))

  -- there is a sample to begin with
  abbrev pub BeginsWithOne : SampleFormat → HashMap ℕ Mp4Track S → Option MvexBox → ℕ → ℕ → Type 0
  BeginsWithOne format tracks mvex id from =
      (IsTrackWritten format tracks id mvex) × (BeginsAt tracks id from true)

  -- For this error is the track refused, or its samples from a number on, and nothing is written; or one of its samples
  -- is, the first that is, `most` being asked for, and those before it are written.
  abbrev pub RefusesExtraction : SampleFormat → (ℕ → Reading) → HashMap ℕ Mp4Track S → Option MvexBox → ℕ → ℕ → ℕ
      → Type 0 → Option (List ℕ) → Option (List ℕ) → ExtractError → Type 0
  RefusesExtraction format readings tracks mvex id from most may_refuse old new e =
      ((RefusesAsked format tracks mvex id from e) × (Appends old new []))
      ⊎ ((BeginsWithOne format tracks mvex id from)
      × (form : SampleForm) × (IsFormIn tracks id format form)
      × (RefusesOneFrom form readings (offset_in tracks id) from most may_refuse old new e))
