-- The event message (ISO/IEC 23009-1, 5.10.3.3).
use Rattle.std.specs.Prelude.{ℕ, zero, suc, ◌^◌, ◌<◌, Bool, true, false, List, [], Option, Some, None, Result, Ok, Err}
use Rattle.std.specs.Prelude.{IfSome, is_some, unwrap_or, ◌==◌, if◌then◌else◌}
use Rattle.mp4_codec.specs.declared.box_type.BoxType.TheVariants.{EmsgBox as emsg}
use Rattle.mp4_codec.specs.Cause.{Cause, invalid_data, unsupported_version, ◌>>=◌}
use Rattle.mp4_codec.specs.Bytes.{number_at, text_at, number, zeros, ◌⧺◌, HasNoZero}
use Rattle.mp4_codec.specs.Boxes.{IsCanonical}
use Rattle.mp4_moof.specs.declared.emsg.EmsgBox.{EmsgBox}

-- the message after version 0 and these flags: the texts come first, and the time counts from the segment's start
unfoldable pub emsg_0_of : ℕ → List ℕ → Result EmsgBox Cause
emsg_0_of flags bytes = do
  scheme_id_uri ← text_at bytes
  value ← text_at scheme_id_uri.1
  timescale ← number_at 4 value.1
  presentation_time_delta ← number_at 4 timescale.1
  event_duration ← number_at 4 presentation_time_delta.1
  id ← number_at 4 event_duration.1
  Ok (record {
    version = 0;
    flags = flags;
    timescale = timescale.0;
    presentation_time = None;
    presentation_time_delta = Some presentation_time_delta.0;
    event_duration = event_duration.0;
    id = id.0;
    scheme_id_uri = scheme_id_uri.0;
    value = value.0;
    message_data = id.1;
  })

-- the message after version 1 and these flags: the texts come last, and the time has 64 bits
unfoldable pub emsg_1_of : ℕ → List ℕ → Result EmsgBox Cause
emsg_1_of flags bytes = do
  timescale ← number_at 4 bytes
  presentation_time ← number_at 8 timescale.1
  event_duration ← number_at 4 presentation_time.1
  id ← number_at 4 event_duration.1
  scheme_id_uri ← text_at id.1
  value ← text_at scheme_id_uri.1
  Ok (record {
    version = 1;
    flags = flags;
    timescale = timescale.0;
    presentation_time = Some presentation_time.0;
    presentation_time_delta = None;
    event_duration = event_duration.0;
    id = id.0;
    scheme_id_uri = scheme_id_uri.0;
    value = value.0;
    message_data = value.1;
  })

abbrev pub emsg_by_version : ℕ → ℕ → List ℕ → Result EmsgBox Cause
emsg_by_version zero flags bytes = emsg_0_of flags bytes
emsg_by_version (suc zero) flags bytes = emsg_1_of flags bytes
emsg_by_version (suc (suc version)) flags bytes = Err (unsupported_version emsg (suc (suc version)))

-- the event message that a payload holds, by its version
unfoldable pub emsg_of : List ℕ → Result EmsgBox Cause
emsg_of payload = do
  version ← number_at 1 payload
  flags ← number_at 3 version.1
  emsg_by_version version.0 flags.0 flags.1

-- a text, and the zero that ends it
unfoldable pub ended : List ℕ → List ℕ
ended text = text ⧺ zeros 1

unfoldable pub emsg_0_payload : EmsgBox → List ℕ
emsg_0_payload b =
    number 1 b.version
    ⧺ number 3 b.flags
    ⧺ ended b.scheme_id_uri
    ⧺ ended b.value
    ⧺ number 4 b.timescale
    ⧺ number 4 (unwrap_or b.presentation_time_delta 0)
    ⧺ number 4 b.event_duration
    ⧺ number 4 b.id
    ⧺ b.message_data

unfoldable pub emsg_1_payload : EmsgBox → List ℕ
emsg_1_payload b =
    number 1 b.version
    ⧺ number 3 b.flags
    ⧺ number 4 b.timescale
    ⧺ number 8 (unwrap_or b.presentation_time 0)
    ⧺ number 4 b.event_duration
    ⧺ number 4 b.id
    ⧺ ended b.scheme_id_uri
    ⧺ ended b.value
    ⧺ b.message_data

-- the payload that holds an event message: a version that isn't 1 has the layout of 0, and a time that is missing is 0
unfoldable pub emsg_payload : EmsgBox → List ℕ
emsg_payload b = if b.version == 1 then emsg_1_payload b else emsg_0_payload b

-- of two times the first alone is there
abbrev pub only_refusal : Bool → Bool → Option Cause
only_refusal true false = None
only_refusal true true = Some invalid_data
only_refusal false other = Some invalid_data

-- each version has one of the two times, and no other version is written
abbrev pub presentation_refusal : ℕ → Bool → Bool → Option Cause
presentation_refusal zero delta time = only_refusal delta time
presentation_refusal (suc zero) delta time = only_refusal time delta
presentation_refusal (suc (suc version)) delta time = Some invalid_data

-- why an event message is not written: its version, or a time that its version doesn't have
unfoldable pub emsg_refusal : EmsgBox → Option Cause
emsg_refusal b = presentation_refusal b.version (is_some b.presentation_time_delta) (is_some b.presentation_time)

-- each number is within its type
pub record IsInRangeEmsg (b : EmsgBox) : Type 0 where
  pub version : b.version < 2 ^ 8
  pub timescale : b.timescale < 2 ^ 32
  pub presentation_time : IfSome b.presentation_time (λ n. n < 2 ^ 64)
  pub presentation_time_delta : IfSome b.presentation_time_delta (λ n. n < 2 ^ 32)
  pub event_duration : b.event_duration < 2 ^ 32
  pub id : b.id < 2 ^ 32

-- flags have 24 bits, and no byte of the texts is zero
pub record IsWellFormedEmsg (b : EmsgBox) : Type 0 where
  pub flags : b.flags < 2 ^ 24
  pub scheme_id_uri : HasNoZero b.scheme_id_uri
  pub value : HasNoZero b.value

-- an event message that is written and reads back equal
abbrev pub IsCanonicalEmsg : EmsgBox → Type 0
IsCanonicalEmsg = IsCanonical IsInRangeEmsg IsWellFormedEmsg emsg_payload emsg_refusal

-- all zero and empty, with neither of the times
abbrev pub default_emsg : EmsgBox
default_emsg = record {
  version = 0;
  flags = 0;
  timescale = 0;
  presentation_time = None;
  presentation_time_delta = None;
  event_duration = 0;
  id = 0;
  scheme_id_uri = [];
  value = [];
  message_data = [];
}
