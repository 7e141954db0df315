-- The movie header (ISO/IEC 14496-12, 8.2.2).
use Rattle.std.specs.Prelude.{ℕ, ◌^◌, ◌<◌, List, Option, Result, Ok}
use Rattle.mp4_codec.specs.Cause.{Cause, ◌>>=◌}
use Rattle.mp4_codec.specs.Bytes.{Reader, number_at, bytes_at, versioned_at, number, zeros, versioned, ◌⧺◌}
use Rattle.mp4_leaf.specs.declared.times.HeaderTimes.{HeaderTimes}
use Rattle.mp4_leaf.specs.Times.{header_times_at, header_times, times_refusal}
use Rattle.mp4_leaf.specs.declared.mvhd.MvhdBox.{MvhdBox}
use Rattle.mp4_leaf.specs.declared.mvhd.Playback.{Playback}
use Rattle.mp4_leaf.specs.Matrix.{matrix_at, matrix, IsInRangeMatrix, unity}
use Rattle.mp4_codec.specs.Boxes.{IsCanonical}

-- how a movie is played: how fast, how loud, and where it is shown
unfoldable pub playback_at : Reader Playback
playback_at bytes = do
  rate ← number_at 4 bytes
  volume ← number_at 2 rate.1
  reserved ← bytes_at 10 volume.1
  matrix ← matrix_at reserved.1
  Ok (record { rate = record { raw = rate.0 }; volume = record { raw = volume.0 }; matrix = matrix.0 }, matrix.1)

-- the movie header that a payload holds, field by field; what follows is skipped
unfoldable pub mvhd_of : List ℕ → Result MvhdBox Cause
mvhd_of payload = do
  header_times ← header_times_at payload
  timescale ← number_at 4 header_times.1
  duration ← versioned_at header_times.0.version timescale.1
  playback ← playback_at duration.1
  predefined ← bytes_at 24 playback.1
  next_track_id ← number_at 4 predefined.1
  Ok (record {
    version = header_times.0.version;
    flags = header_times.0.flags;
    creation_time = header_times.0.creation_time;
    modification_time = header_times.0.modification_time;
    timescale = timescale.0;
    duration = duration.0;
    rate = playback.0.rate;
    volume = playback.0.volume;
    matrix = playback.0.matrix;
    next_track_id = next_track_id.0;
  })

-- what the header begins with
abbrev pub header_times_of : MvhdBox → HeaderTimes
header_times_of b = record {
  version = b.version;
  flags = b.flags;
  creation_time = b.creation_time;
  modification_time = b.modification_time;
}

-- the payload that holds a movie header
unfoldable pub mvhd_payload : MvhdBox → List ℕ
mvhd_payload b =
    header_times (header_times_of b)
    ⧺ number 4 b.timescale
    ⧺ versioned b.version b.duration
    ⧺ number 4 b.rate.raw
    ⧺ number 2 b.volume.raw
    ⧺ zeros 10
    ⧺ matrix b.matrix
    ⧺ zeros 24
    ⧺ number 4 b.next_track_id

-- why a movie header is not written: its version, then the first number that its version has no room for
unfoldable pub mvhd_refusal : MvhdBox → Option Cause
mvhd_refusal b = times_refusal b.version b.creation_time b.modification_time b.duration

-- each number is within its type
pub record IsInRangeMvhd (b : MvhdBox) : Type 0 where
  pub version : b.version < 2 ^ 8
  pub creation_time : b.creation_time < 2 ^ 64
  pub modification_time : b.modification_time < 2 ^ 64
  pub timescale : b.timescale < 2 ^ 32
  pub duration : b.duration < 2 ^ 64
  pub rate : b.rate.raw < 2 ^ 32
  pub volume : b.volume.raw < 2 ^ 16
  pub matrix : IsInRangeMatrix b.matrix
  pub next_track_id : b.next_track_id < 2 ^ 32

-- flags have 24 bits
abbrev pub IsWellFormedMvhd : MvhdBox → Type 0
IsWellFormedMvhd b = b.flags < 2 ^ 24

-- a movie header that is written and reads back equal
abbrev pub IsCanonicalMvhd : MvhdBox → Type 0
IsCanonicalMvhd = IsCanonical IsInRangeMvhd IsWellFormedMvhd mvhd_payload mvhd_refusal

-- 1000 ticks a second, rate and volume 1.0, the first track id still free
abbrev pub default_mvhd : MvhdBox
default_mvhd = record {
  version = 0;
  flags = 0;
  creation_time = 0;
  modification_time = 0;
  timescale = 1000;
  duration = 0;
  rate = record { raw = 0x00010000 };
  volume = record { raw = 0x0100 };
  matrix = unity;
  next_track_id = 1;
}
