-- The track header (ISO/IEC 14496-12, 8.3.2).
use Rattle.std.specs.Prelude.{ℕ, ◌^◌, ◌<◌, List, Option, Result, Ok}
use Rattle.mp4_codec.specs.Cause.{Cause, ◌>>=◌}
use Rattle.mp4_codec.specs.Bytes.{Reader, number_at, bytes_at, versioned_at, number, zeros, versioned, ◌⧺◌}
use Rattle.mp4_leaf.specs.declared.times.HeaderTimes.{HeaderTimes}
use Rattle.mp4_leaf.specs.Times.{header_times_at, header_times, times_refusal}
use Rattle.mp4_leaf.specs.declared.tkhd.Presentation.{Presentation}
use Rattle.mp4_leaf.specs.declared.tkhd.TkhdBox.{TkhdBox}
use Rattle.mp4_leaf.specs.Matrix.{matrix_at, matrix, IsInRangeMatrix, unity}
use Rattle.mp4_codec.specs.Boxes.{IsCanonical}

-- how a track is presented: beside which others, how loud, where and how large
unfoldable pub presentation_at : Reader Presentation
presentation_at bytes = do
  layer ← number_at 2 bytes
  alternate_group ← number_at 2 layer.1
  volume ← number_at 2 alternate_group.1
  reserved ← bytes_at 2 volume.1
  matrix ← matrix_at reserved.1
  width ← number_at 4 matrix.1
  height ← number_at 4 width.1
  Ok (
    record {
      layer = layer.0;
      alternate_group = alternate_group.0;
      volume = record { raw = volume.0 };
      matrix = matrix.0;
      width = record { raw = width.0 };
      height = record { raw = height.0 };
    },
    height.1,
  )

-- the track header that a payload holds, field by field; what follows is skipped
unfoldable pub tkhd_of : List ℕ → Result TkhdBox Cause
tkhd_of payload = do
  header_times ← header_times_at payload
  track_id ← number_at 4 header_times.1
  reserved ← bytes_at 4 track_id.1
  duration ← versioned_at header_times.0.version reserved.1
  reserved_too ← bytes_at 8 duration.1
  presentation ← presentation_at reserved_too.1
  Ok (record {
    version = header_times.0.version;
    flags = header_times.0.flags;
    creation_time = header_times.0.creation_time;
    modification_time = header_times.0.modification_time;
    track_id = track_id.0;
    duration = duration.0;
    layer = presentation.0.layer;
    alternate_group = presentation.0.alternate_group;
    volume = presentation.0.volume;
    matrix = presentation.0.matrix;
    width = presentation.0.width;
    height = presentation.0.height;
  })

-- what the header begins with
abbrev pub header_times_of : TkhdBox → HeaderTimes
header_times_of b = record {
  version = b.version;
  flags = b.flags;
  creation_time = b.creation_time;
  modification_time = b.modification_time;
}

-- the payload that holds a track header
unfoldable pub tkhd_payload : TkhdBox → List ℕ
tkhd_payload b =
    header_times (header_times_of b)
    ⧺ number 4 b.track_id
    ⧺ zeros 4
    ⧺ versioned b.version b.duration
    ⧺ zeros 8
    ⧺ number 2 b.layer
    ⧺ number 2 b.alternate_group
    ⧺ number 2 b.volume.raw
    ⧺ zeros 2
    ⧺ matrix b.matrix
    ⧺ number 4 b.width.raw
    ⧺ number 4 b.height.raw

-- why a track header is not written: its version, then the first number that its version has no room for
unfoldable pub tkhd_refusal : TkhdBox → Option Cause
tkhd_refusal b = times_refusal b.version b.creation_time b.modification_time b.duration

-- each number is within its type
pub record IsInRangeTkhd (b : TkhdBox) : Type 0 where
  pub version : b.version < 2 ^ 8
  pub creation_time : b.creation_time < 2 ^ 64
  pub modification_time : b.modification_time < 2 ^ 64
  pub track_id : b.track_id < 2 ^ 32
  pub duration : b.duration < 2 ^ 64
  pub layer : b.layer < 2 ^ 16
  pub alternate_group : b.alternate_group < 2 ^ 16
  pub volume : b.volume.raw < 2 ^ 16
  pub matrix : IsInRangeMatrix b.matrix
  pub width : b.width.raw < 2 ^ 32
  pub height : b.height.raw < 2 ^ 32

-- flags have 24 bits
abbrev pub IsWellFormedTkhd : TkhdBox → Type 0
IsWellFormedTkhd b = b.flags < 2 ^ 24

-- a track header that is written and reads back equal
abbrev pub IsCanonicalTkhd : TkhdBox → Type 0
IsCanonicalTkhd = IsCanonical IsInRangeTkhd IsWellFormedTkhd tkhd_payload tkhd_refusal

-- an enabled track, at volume 1.0
abbrev pub default_tkhd : TkhdBox
default_tkhd = record {
  version = 0;
  flags = 1;
  creation_time = 0;
  modification_time = 0;
  track_id = 0;
  duration = 0;
  layer = 0;
  alternate_group = 0;
  volume = record { raw = 0x0100 };
  matrix = unity;
  width = record { raw = 0 };
  height = record { raw = 0 };
}
