-- The defaults of a track in movie fragments (ISO/IEC 14496-12, 8.8.3).
use Rattle.std.specs.Prelude.{ℕ, ◌^◌, ◌<◌, List, Result, Ok}
use Rattle.mp4_codec.specs.Cause.{Cause, ◌>>=◌}
use Rattle.mp4_codec.specs.Bytes.{number_at, number, ◌⧺◌}
use Rattle.mp4_codec.specs.Boxes.{IsCanonical, no_refusal}
use Rattle.mp4_moof.specs.declared.trex.TrexBox.{TrexBox}

-- the track extends box that a payload holds, field by field; what follows is skipped
unfoldable pub trex_of : List ℕ → Result TrexBox Cause
trex_of payload = do
  version ← number_at 1 payload
  flags ← number_at 3 version.1
  track_id ← number_at 4 flags.1
  default_sample_description_index ← number_at 4 track_id.1
  default_sample_duration ← number_at 4 default_sample_description_index.1
  default_sample_size ← number_at 4 default_sample_duration.1
  default_sample_flags ← number_at 4 default_sample_size.1
  Ok (record {
    version = version.0;
    flags = flags.0;
    track_id = track_id.0;
    default_sample_description_index = default_sample_description_index.0;
    default_sample_duration = default_sample_duration.0;
    default_sample_size = default_sample_size.0;
    default_sample_flags = default_sample_flags.0;
  })

-- the payload that holds a track extends box
unfoldable pub trex_payload : TrexBox → List ℕ
trex_payload b =
    number 1 b.version
    ⧺ number 3 b.flags
    ⧺ number 4 b.track_id
    ⧺ number 4 b.default_sample_description_index
    ⧺ number 4 b.default_sample_duration
    ⧺ number 4 b.default_sample_size
    ⧺ number 4 b.default_sample_flags

-- each number is within its type
pub record IsInRangeTrex (b : TrexBox) : Type 0 where
  pub version : b.version < 2 ^ 8
  pub track_id : b.track_id < 2 ^ 32
  pub default_sample_description_index : b.default_sample_description_index < 2 ^ 32
  pub default_sample_duration : b.default_sample_duration < 2 ^ 32
  pub default_sample_size : b.default_sample_size < 2 ^ 32
  pub default_sample_flags : b.default_sample_flags < 2 ^ 32

-- flags have 24 bits
abbrev pub IsWellFormedTrex : TrexBox → Type 0
IsWellFormedTrex b = b.flags < 2 ^ 24

-- a track extends box that is written and reads back equal
abbrev pub IsCanonicalTrex : TrexBox → Type 0
IsCanonicalTrex = IsCanonical IsInRangeTrex IsWellFormedTrex trex_payload no_refusal

-- no defaults of any track
abbrev pub default_trex : TrexBox
default_trex = record {
  version = 0;
  flags = 0;
  track_id = 0;
  default_sample_description_index = 0;
  default_sample_duration = 0;
  default_sample_size = 0;
  default_sample_flags = 0;
}
