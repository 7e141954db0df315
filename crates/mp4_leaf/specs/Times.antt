-- The times that headers of movies, tracks and media have (ISO/IEC 14496-12, 8.2.2, 8.3.2 and 8.4.2).
use Rattle.std.specs.Prelude.{ℕ, List, Option, Ok}
use Rattle.mp4_codec.specs.Cause.{Cause, ◌>>=◌, ◌or◌}
use Rattle.mp4_codec.specs.Bytes.{Reader, number_at, versioned_at, number, versioned, ◌⧺◌, version_refusal}
use Rattle.mp4_codec.specs.Bytes.{value_refusal}
use Rattle.mp4_leaf.specs.declared.times.HeaderTimes.{HeaderTimes}

-- what such a header begins with: its version and flags, and when it was made and changed
unfoldable pub header_times_at : Reader HeaderTimes
header_times_at bytes = do
  version ← number_at 1 bytes
  flags ← number_at 3 version.1
  creation_time ← versioned_at version.0 flags.1
  modification_time ← versioned_at version.0 creation_time.1
  Ok (
    record {
      version = version.0;
      flags = flags.0;
      creation_time = creation_time.0;
      modification_time = modification_time.0;
    },
    modification_time.1,
  )

unfoldable pub header_times : HeaderTimes → List ℕ
header_times s = number 1 s.version ⧺ number 3 s.flags ⧺ versioned s.version s.creation_time
    ⧺ versioned s.version s.modification_time

-- why a header of these times is not written: its version, then the first time that its version has no room for
unfoldable pub times_refusal : ℕ → ℕ → ℕ → ℕ → Option Cause
times_refusal version creation_time modification_time duration =
    version_refusal version
    or value_refusal version creation_time
    or value_refusal version modification_time
    or value_refusal version duration
