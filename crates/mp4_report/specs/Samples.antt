-- The samples that are listed of a track.
use Rattle.std.specs.Prelude.{◌≡◌, ℕ, ◌+◌, ◌-◌, ◌^◌, ◌==◌, ◌&&◌, nat_le, Bool, List, [], ◌∷◌, length, max}
use Rattle.std.specs.Prelude.{if◌then◌else◌}
use Rattle.std.specs.Prelude.{Option, Some, None, option_map, unwrap_or, Result, Ok, Err}
use Rattle.mp4_codec.specs.Cause.{Cause, cause_of}
use Rattle.mp4_media.specs.Partition.{AnswersLast}
use Rattle.mp4_boxes.specs.Stbl.{sample_count}
use Rattle.mp4_samples.specs.Tables.{tables_of}
use Rattle.mp4_samples.specs.declared.sample.Place.{Place}
use Rattle.mp4_lookup.specs.declared.track.Mp4Track.{Mp4Track}
use Rattle.mp4_lookup.specs.ByTime.{sample_by}
use Rattle.mp4_lookup.specs.InOrder.{answers_from, samples_left}
use Rattle.mp4_lookup.specs.TrackRuns.{track_runs}
use Rattle.mp4_readable.specs.DecimalTime.{ticks_of}
use Rattle.mp4_report.specs.declared.samples.First.{First}
use Rattle.mp4_report.specs.declared.samples.First.TheVariants.{Number, Time}
use Rattle.mp4_report.specs.declared.samples.SampleReport.{SampleReport}
use Rattle.mp4_report.specs.declared.samples.SampleRows.{SampleRows}
use Rattle.mp4_report.specs.declared.samples.SamplesRequest.{SamplesRequest}

-- the row of the sample of a number in a file of so many bytes: each field is the library's answer
abbrev pub row_of : ℕ → ℕ → Place → SampleReport
row_of number file_size place = record {
  number = number;
  place = record { 0 = place.offset };
  size = place.size;
  decode_time = record { 0 = place.start_time };
  duration = place.duration;
  rendering_offset = place.rendering_offset;
  is_sync = place.is_sync;
  in_file = nat_le (place.offset + place.size) file_size;
}

-- the row of the first of these answers, if that is a sample
abbrev pub first_row : ℕ → ℕ → List (Result Place Cause) → Option SampleReport
first_row number file_size [] = None
first_row number file_size (Ok place ∷ others) = Some (row_of number file_size place)
first_row number file_size (Err cause ∷ others) = None

-- the row that comes next, where any may come
unfoldable pub next_row : SampleRows → Option SampleReport
next_row rows =
    if rows.left == 0 then None else first_row rows.number rows.file_size (samples_left rows.samples)

-- why the first of these answers is refused, or what was refused before
abbrev pub first_refusal : Option Cause → List (Result Place Cause) → Option Cause
first_refusal before [] = before
first_refusal before (Ok place ∷ others) = before
first_refusal before (Err cause ∷ others) = Some cause

unfoldable pub next_refusal : SampleRows → Option Cause
next_refusal rows =
    let before = option_map cause_of rows.refused in
    if rows.left == 0 then before else first_refusal before (samples_left rows.samples)

-- a track has no samples: no table says that it has one, and it has no fragments
abbrev pub is_empty : Mp4Track → Bool
is_empty track =
    (length track.trafs == 0) && (sample_count (tables_of track.trak) == 0)
    && (length (tables_of track.trak).stsc.entries == 0)

-- the number of the first sample that is listed: the one that is asked for, or the last that is decoded at or before a
-- time, or else 1
abbrev pub IsFirstNumber : Mp4Track → First → ℕ → Type 0
IsFirstNumber track (Number number) first = first ≡ max number 1
IsFirstNumber track (Time time) first =
    (found : Option ℕ)
    × (AnswersLast (sample_by (tables_of track.trak) (track_runs track)
    (ticks_of time track.trak.mdia.mdhd.timescale)) (2 ^ 32) found)
    × (first ≡ unwrap_or found 1)

-- rows before the first sample that is asked for, in a file of so many bytes
pub record AreRows (file_size : ℕ) (request : SamplesRequest) (rows : SampleRows) : Type 0 where
  pub size : rows.file_size ≡ file_size
  pub first : IsFirstNumber rows.track.now request.first rows.number
  pub samples : samples_left rows.samples ≡ answers_from (2 ^ 32 - rows.number) rows.track.now rows.number
  pub left : rows.left ≡ (if is_empty rows.track.now then 0 else request.count)
  pub refused : rows.refused ≡ None
