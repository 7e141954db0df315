-- The media header (ISO/IEC 14496-12, 8.4.2).
use Rattle.std.specs.Prelude.{ℕ, ◌^◌, ◌<◌, List, [], ◌∷◌, Option, Result, Ok}
use Rattle.mp4_codec.specs.Cause.{Cause, ◌>>=◌, ◌or◌}
use Rattle.mp4_codec.specs.Bytes.{number_at, bytes_at, versioned_at, number, zeros, versioned, ◌⧺◌}
use Rattle.mp4_leaf.specs.declared.times.HeaderTimes.{HeaderTimes}
use Rattle.mp4_leaf.specs.Times.{header_times_at, header_times, times_refusal}
use Rattle.mp4_leaf.specs.declared.mdhd.MdhdBox.{MdhdBox}
use Rattle.mp4_leaf.specs.Language.{unpacked, packed, language_refusal}
use Rattle.mp4_codec.specs.Boxes.{IsCanonical}

-- the media header that a payload holds, field by field; what follows is skipped
unfoldable pub mdhd_of : List ℕ → Result MdhdBox Cause
mdhd_of payload = do
  header_times ← header_times_at payload
  timescale ← number_at 4 header_times.1
  duration ← versioned_at header_times.0.version timescale.1
  language ← number_at 2 duration.1
  predefined ← bytes_at 2 language.1
  Ok (record {
    version = header_times.0.version;
    flags = header_times.0.flags;
    creation_time = header_times.0.creation_time;
    modification_time = header_times.0.modification_time;
    timescale = timescale.0;
    duration = duration.0;
    language = unpacked language.0;
  })

-- what the header begins with
abbrev pub header_times_of : MdhdBox → HeaderTimes
header_times_of b = record {
  version = b.version;
  flags = b.flags;
  creation_time = b.creation_time;
  modification_time = b.modification_time;
}

-- the payload that holds a media header
unfoldable pub mdhd_payload : MdhdBox → List ℕ
mdhd_payload b =
    header_times (header_times_of b)
    ⧺ number 4 b.timescale
    ⧺ versioned b.version b.duration
    ⧺ number 2 (packed b.language)
    ⧺ zeros 2

-- why a media header is not written: its version, then the first number that its version has no room for, then its
-- language
unfoldable pub mdhd_refusal : MdhdBox → Option Cause
mdhd_refusal b = times_refusal b.version b.creation_time b.modification_time b.duration or language_refusal b.language

-- each number is within its type
pub record IsInRangeMdhd (b : MdhdBox) : Type 0 where
  pub version : b.version < 2 ^ 8
  pub creation_time : b.creation_time < 2 ^ 64
  pub modification_time : b.modification_time < 2 ^ 64
  pub timescale : b.timescale < 2 ^ 32
  pub duration : b.duration < 2 ^ 64

-- flags have 24 bits
abbrev pub IsWellFormedMdhd : MdhdBox → Type 0
IsWellFormedMdhd b = b.flags < 2 ^ 24

-- a media header that is written and reads back equal
abbrev pub IsCanonicalMdhd : MdhdBox → Type 0
IsCanonicalMdhd = IsCanonical IsInRangeMdhd IsWellFormedMdhd mdhd_payload mdhd_refusal

-- 1000 ticks a second, and the language "und"
abbrev pub default_mdhd : MdhdBox
default_mdhd = record {
  version = 0;
  flags = 0;
  creation_time = 0;
  modification_time = 0;
  timescale = 1000;
  duration = 0;
  language = 0x75 ∷ 0x6e ∷ 0x64 ∷ [];
}
