-- The subtitles of a track of text.
use Rattle.std.specs.Prelude.{◌≡◌, ◌⊎◌, ℕ, zero, suc, ◌+◌, ◌-◌, ◌<◌, ◌^◌, min, ◌==◌, ◌&&◌, ◌||◌, not, nat_lt}
use Rattle.std.specs.Prelude.{Bool, if◌then◌else◌, string_bytes, length, List, [], ◌∷◌, ◌++◌}
use Rattle.std.specs.Prelude.{Option, Some, None, Result, Ok, Err, is_none}
use Rattle.std.specs.HashMap.{HashMap}
use Rattle.mp4_codec.specs.Cause.{Cause, cause_of, box_in_stbl_not_found, invalid_data, ◌>>=◌}
use Rattle.mp4_codec.specs.declared.box_type.BoxType.TheVariants.{Tx3gBox}
use Rattle.mp4_codec.specs.declared.error.Error.{Error}
use Rattle.mp4_boxes.specs.declared.moov.MoovBox.{MoovBox}
use Rattle.mp4_lookup.specs.declared.track.Mp4Track.{Mp4Track}
use Rattle.mp4_samples.specs.Samples.{TimedSample}
use Rattle.mp4_samples.specs.Tables.{tables_of}
use Rattle.mp4_media.specs.Reading.{needed_track, sample_count_in}
use Rattle.mp4_extract.specs.declared.edits.SubtitleTimes.{SubtitleTimes}
use Rattle.mp4_extract.specs.declared.edits.TextShift.{TextShift}
use Rattle.mp4_extract.specs.declared.error.ExtractError.{ExtractError}
use Rattle.mp4_extract.specs.declared.error.ExtractError.TheVariants.{OutOfMemory, Track, WrongFormat, NoSuchSample}
use Rattle.mp4_extract.specs.declared.error.ExtractError.TheVariants.{OtherDescription, Sample, Read, Write}
use Rattle.mp4_extract.specs.declared.text_track.Subtitle.{Subtitle}
use Rattle.mp4_extract.specs.declared.text_track.SubtitleReader.{SubtitleReader}
use Rattle.mp4_extract.specs.Edits.{edit_list_of, shift_of}
use Rattle.mp4_extract.specs.Errors.{of_track}
use Rattle.mp4_extract.specs.Extracting.{Reading, RefusesOne, WantsRoomFor, offset_in}
use Rattle.mp4_extract.specs.Texts.{HasNoText, IsTextOf, WantsText, milliseconds_of}

-- a sample that begins so many ticks before what is shown of its track is shown in part
abbrev pub has_time_left : ℕ → ℕ → Bool
has_time_left early duration = early == 0 || nat_lt early duration

-- The subtitle of the sample with this number: its text, from the start of the sample on, for as long as the sample
-- lasts, without the ticks that are left out at the start of the media. All are later by the shift's delay. Times stop
-- at 64 bits.
pub record IsSubtitleOf (shift : TextShift) (timescale number : ℕ) (s : TimedSample) (t : Subtitle) : Type 0 where
  pub start : ℕ
  pub lasts : ℕ
  pub number_is : t.number ≡ number
  pub start_is : milliseconds_of (s.start_time - shift.skipped) timescale ≡ Ok start
  pub lasts_is : milliseconds_of (s.sample.duration - (shift.skipped - s.start_time)) timescale ≡ Ok lasts
  pub from_is : t.from ≡ min (shift.delay + start) (2 ^ 64 - 1)
  pub to_is : t.to ≡ min (t.from + lasts) (2 ^ 64 - 1)
  pub shown_is : t.is_shown
      ≡ (not (length (string_bytes t.text) == 0) && has_time_left (shift.skipped - s.start_time) s.sample.duration)
  pub text_is : IsTextOf s.sample.bytes (string_bytes t.text)

-- the subtitle of what was read at this number, if there is a sample
abbrev pub IsSubtitleAt : TextShift → ℕ → ℕ → Reading → Option Subtitle → Type 0
IsSubtitleAt shift timescale number reading None = reading (Ok None)
IsSubtitleAt shift timescale number reading (Some t) =
    (s : TimedSample) × (reading (Ok (Some s))) × (IsSubtitleOf shift timescale number s t)

-- when the text of a sample begins, before it is moved by the shift's delay, and how long it is shown
abbrev pub text_times : TextShift → ℕ → TimedSample → Result (ℕ × ℕ) Cause
text_times shift timescale s = do
  start ← milliseconds_of (s.start_time - shift.skipped) timescale
  lasts ← milliseconds_of (s.sample.duration - (shift.skipped - s.start_time)) timescale
  Ok (start, lasts)

-- for this error has a sample no subtitle: for its times, and where they are there for its text
abbrev pub RefusesTimed : TextShift → ℕ → TimedSample → Error → Type 0
RefusesTimed shift timescale s e =
    (text_times shift timescale s ≡ Err (cause_of e))
    ⊎ ((times : ℕ × ℕ) × (text_times shift timescale s ≡ Ok times)
    × (cause_of e ≡ invalid_data) × (HasNoText s.sample.bytes))

-- memory is wanted for the subtitle of a sample: its times are there
abbrev pub WantsSubtitle : TextShift → ℕ → TimedSample → Type 0
WantsSubtitle shift timescale s =
    (times : ℕ × ℕ) × (text_times shift timescale s ≡ Ok times) × (WantsText s.sample.bytes)

-- memory is wanted for a subtitle: a buffer has no room for so many bytes as its sample has, or its text wants it
abbrev pub WantsTextRoom : TextShift → ℕ → ℕ → Reading → Type 0
WantsTextRoom shift timescale room reading = WantsRoomFor (WantsSubtitle shift timescale) room reading

-- for this error has the sample with number k, which lies at this place where that is known, no subtitle; none is
-- written, so that no sink refuses it
abbrev pub RefusesSubtitle : TextShift → ℕ → ℕ → Reading → Option ℕ → Type 0 → ExtractError → Type 0
RefusesSubtitle shift timescale k reading offset may_refuse e =
    RefusesOne (RefusesTimed shift timescale) ⊥ reading offset k may_refuse e

-- subtitles, and one more where that is shown
abbrev pub and_shown : List Subtitle → Subtitle → List Subtitle
and_shown list t = if t.is_shown then list ++ t ∷ [] else list

-- how the texts of a track are read: the ticks in a second of its times, how these are moved, and how many samples
-- it has
pub record TextReading : Type 0 where
  pub timescale : ℕ
  pub shift : TextShift
  pub count : ℕ

abbrev pub reading_of : SubtitleReader → TextReading
reading_of r = record { timescale = r.timescale; shift = r.shift; count = r.count }

-- these are the subtitles that are shown of the first n samples, in their order
abbrev pub AreSubtitles : TextReading → (ℕ → Reading) → ℕ → List Subtitle → Type 0
AreSubtitles text readings zero list = list ≡ []
AreSubtitles text readings (suc n) list =
    (before : List Subtitle) × (last : Subtitle) × (AreSubtitles text readings n before)
    × (IsSubtitleAt text.shift text.timescale (n + 1) (readings (n + 1)) (Some last))
    × (list ≡ and_shown before last)

-- these are the subtitles that are shown of all samples
abbrev pub AreAllSubtitles : TextReading → (ℕ → Reading) → List Subtitle → Type 0
AreAllSubtitles text readings list =
    (n : ℕ) × (AreSubtitles text readings n list) × ((n ≡ text.count) ⊎ (readings (n + 1) (Ok None)))

-- for this error are the texts of a track not read, where they would be read so
abbrev pub RefusesReading : Result TextReading Cause → ExtractError → Type 0
RefusesReading answer e = (c : Error) × (e ≡ of_track c) × (answer ≡ Err (cause_of c))

-- the texts of a track are read so, or refused
abbrev pub IsReadingOf : Result TextReading Cause → Result SubtitleReader ExtractError → Type 0
IsReadingOf answer (Ok r) = answer ≡ Ok (reading_of r)
IsReadingOf answer (Err e) = RefusesReading answer e

-- the ticks in a second of a track with this id, which has to be one of text
unfoldable pub text_timescale : ℕ → Mp4Track → Result ℕ Cause
text_timescale id t =
    if is_none (tables_of t.trak).stsd.tx3g then Err (box_in_stbl_not_found id Tx3gBox) else
    Ok t.trak.mdia.mdhd.timescale

module _ {S : Type 0} where
  -- the ticks in a second of the track of text with this id
  unfoldable pub timescale_in : HashMap ℕ Mp4Track S → ℕ → Result ℕ Cause
  timescale_in tracks id = needed_track tracks id >>= text_timescale id

  -- how the texts of the track with this id are moved
  unfoldable pub shift_in : SubtitleTimes → HashMap ℕ Mp4Track S → ℕ → MoovBox → Result TextShift Cause
  shift_in times tracks id moov =
      needed_track tracks id >>= λ t. shift_of times (edit_list_of t.trak) moov.mvhd.timescale

  -- how the texts of the track with this id are read
  unfoldable pub text_reading : SubtitleTimes → HashMap ℕ Mp4Track S → ℕ → MoovBox → Result TextReading Cause
  text_reading times tracks id moov = do
    timescale ← timescale_in tracks id
    shift ← shift_in times tracks id moov
    count ← sample_count_in tracks id
    Ok (record { timescale = timescale; shift = shift; count = count })

  -- these are the subtitles that are shown of the track with this id
  abbrev pub AreSubtitlesOf : SubtitleTimes → (ℕ → Reading) → HashMap ℕ Mp4Track S → ℕ → MoovBox → List Subtitle
      → Type 0
  AreSubtitlesOf times readings tracks id moov list =
      (text : TextReading) × (text_reading times tracks id moov ≡ Ok text) × (AreAllSubtitles text readings list)

  -- For this error are the subtitles of the track with this id refused: the track is; or one of its samples is, the
  -- first that is.
  abbrev pub RefusesSubtitles : SubtitleTimes → (ℕ → Reading) → HashMap ℕ Mp4Track S → ℕ → MoovBox → Type 0
      → ExtractError → Type 0
  RefusesSubtitles times readings tracks id moov may_refuse e =
      (RefusesReading (text_reading times tracks id moov) e)
      ⊎ ((text : TextReading) × (text_reading times tracks id moov ≡ Ok text)
      × (n : ℕ) × (n < text.count) × (before : List Subtitle) × (AreSubtitles text readings n before)
      × (RefusesSubtitle text.shift text.timescale (n + 1) (readings (n + 1)) (offset_in tracks id (n + 1))
      may_refuse e))
