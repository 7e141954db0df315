-- Samples, and what is read of them in a file (ISO/IEC 14496-12, 8.6.1, 8.6.2 and 8.7).
use Rattle.std.specs.Prelude.{ℕ, ℤ, ◌+◌, Bool, List, [], ◌∷◌, length, take, drop, Option, Some, None, Result, Ok, Err}
use Rattle.std.specs.Prelude.{nat_lt, if◌then◌else◌}
use Rattle.mp4_codec.specs.Cause.{Cause, end_of_data, ◌>>=◌}
use Rattle.mp4_boxes.specs.declared.stbl.StblBox.{StblBox}
use Rattle.mp4_samples.specs.declared.sample.Mp4Sample.{Mp4Sample}
use Rattle.mp4_samples.specs.declared.sample.SampleRef.{SampleRef}
use Rattle.mp4_samples.specs.declared.sample.Place.{Place}
use Rattle.mp4_samples.specs.Plain.{plain_at}

-- A sample: its bytes, its duration in ticks of its track, how many ticks later than it is decoded it is shown, and
-- whether it is a sync sample. When it is decoded follows from the durations before it.
pub record Sample : Type 0 where
  pub bytes : List ℕ
  pub duration : ℕ
  pub rendering_offset : ℤ
  pub is_sync : Bool

-- a sample, and the time at which it is decoded, in ticks of its track (8.6.1.2)
pub record TimedSample : Type 0 where
  pub start_time : ℕ
  pub sample : Sample

-- the first sample is decoded at this time, and each of the others when the one before it has lasted
unfoldable pub timed_from : ℕ → List Sample → List TimedSample
timed_from time [] = []
timed_from time (s ∷ ss) = record { start_time = time; sample = s } ∷ timed_from (time + s.duration) ss

-- the samples of a track with their times: the first is decoded at 0
abbrev pub timed : List Sample → List TimedSample
timed ss = timed_from 0 ss

-- the sample that lies at a place of a file: its bytes are as many as it has, from its offset on
abbrev pub read_at : List ℕ → Place → TimedSample
read_at file p = record {
  start_time = p.start_time;
  sample = record {
    bytes = take p.size (drop p.offset file);
    duration = p.duration;
    rendering_offset = p.rendering_offset;
    is_sync = p.is_sync;
  };
}

-- the sample at a place that a lookup found: one that doesn't lie whole in the file is refused
abbrev pub read_in : List ℕ → Option Place → Result (Option TimedSample) Cause
read_in file None = Ok None
read_in file (Some p) = if nat_lt (length file) (p.offset + p.size) then Err end_of_data else Ok (Some (read_at file p))

-- what is read at number k where the tables written out lead
unfoldable pub plain_sample_at : List ℕ → StblBox → ℕ → Result (Option TimedSample) Cause
plain_sample_at file t k = plain_at t k >>= read_in file

-- a sample that holds its bytes, without its time
abbrev pub sample_of : Mp4Sample → Sample
sample_of s =
    record {
      bytes = s.bytes;
      duration = s.duration;
      rendering_offset = s.rendering_offset;
      is_sync = s.is_sync;
    }

-- the same with its time, and a sample whose bytes are borrowed
abbrev pub timed_sample : Mp4Sample → TimedSample
timed_sample s = record { start_time = s.start_time; sample = sample_of s }

abbrev pub borrowed_sample : SampleRef → TimedSample
borrowed_sample s = record {
  start_time = s.start_time;
  sample = record {
    bytes = s.bytes.now;
    duration = s.duration;
    rendering_offset = s.rendering_offset;
    is_sync = s.is_sync;
  };
}
