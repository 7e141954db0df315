-- The edit list (ISO/IEC 14496-12, 8.6.6).
use Rattle.std.specs.Prelude.{ℕ, ◌^◌, ◌<◌, List, [], length, Option, Result, Ok, ◌==◌, if◌then◌else◌}
use Rattle.std.specs.List.{flat_map, AllByRecursion}
use Rattle.mp4_codec.specs.Cause.{Cause, ◌>>=◌, ◌or◌, unless}
use Rattle.mp4_codec.specs.Bytes.{Reader, number_at, sized_at, list_at, number, versioned, ◌⧺◌, version_refusal}
use Rattle.mp4_codec.specs.Bytes.{value_refusal, FitsVersion}
use Rattle.mp4_codec.specs.Boxes.{all_refusal, IsCanonical}
use Rattle.mp4_leaf.specs.declared.elst.ElstEntry.{ElstEntry}
use Rattle.mp4_leaf.specs.declared.elst.ElstBox.{ElstBox}

-- an entry of a version that was looked at: its duration and its time have 8 bytes in version 1, else 4
unfoldable pub elst_entry_at : ℕ → Reader ElstEntry
elst_entry_at version bytes = do
  segment_duration ← sized_at version bytes
  media_time ← sized_at version segment_duration.1
  media_rate ← number_at 2 media_time.1
  media_rate_fraction ← number_at 2 media_rate.1
  Ok (
    record {
      segment_duration = segment_duration.0;
      media_time = media_time.0;
      media_rate = media_rate.0;
      media_rate_fraction = media_rate_fraction.0;
    },
    media_rate_fraction.1,
  )

unfoldable pub elst_entry : ℕ → ElstEntry → List ℕ
elst_entry version e =
    versioned version e.segment_duration ⧺ versioned version e.media_time ⧺ number 2 e.media_rate
    ⧺ number 2 e.media_rate_fraction

abbrev pub elst_entry_length : ℕ → ℕ
elst_entry_length version = if version == 1 then 20 else 12

-- each number of an entry is within its type
pub record IsInRangeElstEntry (e : ElstEntry) : Type 0 where
  pub segment_duration : e.segment_duration < 2 ^ 64
  pub media_time : e.media_time < 2 ^ 64
  pub media_rate : e.media_rate < 2 ^ 16
  pub media_rate_fraction : e.media_rate_fraction < 2 ^ 16

-- each number of an entry fits its field in this version
pub record FitsElstEntry (version : ℕ) (e : ElstEntry) : Type 0 where
  pub segment_duration : FitsVersion version e.segment_duration
  pub media_time : FitsVersion version e.media_time
  pub media_rate : e.media_rate < 2 ^ 16
  pub media_rate_fraction : e.media_rate_fraction < 2 ^ 16

-- an entry is not written in a version that has no room for its numbers
unfoldable pub elst_entry_refusal : ℕ → ElstEntry → Option Cause
elst_entry_refusal version e = value_refusal version e.segment_duration or value_refusal version e.media_time

-- the edit list that a payload holds: as many entries as it counts; what follows is skipped
unfoldable pub elst_of : List ℕ → Result ElstBox Cause
elst_of payload = do
  version ← number_at 1 payload
  flags ← number_at 3 version.1
  bytes ← unless (version_refusal version.0) (Ok flags.1)
  count ← number_at 4 bytes
  entries ← list_at (elst_entry_at version.0) count.0 count.1
  Ok (record { version = version.0; flags = flags.0; entries = entries.0 })

-- the payload that holds an edit list
unfoldable pub elst_payload : ElstBox → List ℕ
elst_payload b =
    number 1 b.version ⧺ number 3 b.flags ⧺ number 4 (length b.entries) ⧺ flat_map (elst_entry b.version) b.entries

-- why an edit list is not written: its version, then the first number that its version has no room for
unfoldable pub elst_refusal : ElstBox → Option Cause
elst_refusal b = version_refusal b.version or all_refusal (elst_entry_refusal b.version) b.entries

-- each number is within its type
pub record IsInRangeElst (b : ElstBox) : Type 0 where
  pub version : b.version < 2 ^ 8
  pub entries : AllByRecursion IsInRangeElstEntry b.entries

-- flags have 24 bits
abbrev pub IsWellFormedElst : ElstBox → Type 0
IsWellFormedElst b = b.flags < 2 ^ 24

-- an edit list that is written and reads back equal
abbrev pub IsCanonicalElst : ElstBox → Type 0
IsCanonicalElst = IsCanonical IsInRangeElst IsWellFormedElst elst_payload elst_refusal

-- no edits
abbrev pub default_elst : ElstBox
default_elst = record { version = 0; flags = 0; entries = [] }
