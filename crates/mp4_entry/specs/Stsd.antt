-- The sample description: the first sample entry of a track (ISO/IEC 14496-12, 8.5.2).
use Rattle.std.specs.Prelude.{◌≡◌, ℕ, ◌^◌, ◌<◌, List, [], Option, Some, None, Result, Ok, IfSome, if◌then◌else◌}
use Rattle.mp4_codec.specs.declared.box_type.BoxType.TheVariants.{Avc1Box as avc1, Hev1Box as hev1, Vp09Box as vp09}
use Rattle.mp4_codec.specs.declared.box_type.BoxType.TheVariants.{Mp4aBox as mp4a, Tx3gBox as tx3g}
use Rattle.mp4_codec.specs.Cause.{Cause, ◌>>=◌, seen}
use Rattle.mp4_codec.specs.Bytes.{number_at, number, ◌⧺◌}
use Rattle.mp4_codec.specs.Boxes.{box_bytes, IsCanonical}
use Rattle.mp4_codec.specs.Early.{Early, succeeds, at_once, ◌before◌}
use Rattle.mp4_codec.specs.Children.{ChildBox, next_at, is_of}
use Rattle.mp4_entry.specs.declared.config.MediaConfig.{MediaConfig}
use Rattle.mp4_entry.specs.declared.config.MediaConfig.TheVariants.{AvcConfig as Avc, HevcConfig as Hevc}
use Rattle.mp4_entry.specs.declared.config.MediaConfig.TheVariants.{Vp9Config as Vp9, AacConfig as Aac}
use Rattle.mp4_entry.specs.declared.config.MediaConfig.TheVariants.{TtxtConfig as Ttxt}
use Rattle.mp4_entry.specs.declared.stsd.StsdBox.{StsdBox}
use Rattle.mp4_entry.specs.declared.sample_entry.EntryRef.{EntryRef}
use Rattle.mp4_entry.specs.declared.sample_entry.EntryRef.TheVariants.{AvcVideo, HevcVideo, Vp9Video, AacSound, Text}
use Rattle.mp4_entry.specs.declared.sample_entry.EntryRef.TheVariants.{NoKnown}
use Rattle.mp4_entry.specs.declared.sample_entry.SampleEntry.{SampleEntry}
use Rattle.mp4_entry.specs.declared.sample_entry.SampleEntry.TheVariants.{AvcVideo as avc_video}
use Rattle.mp4_entry.specs.declared.sample_entry.SampleEntry.TheVariants.{HevcVideo as hevc_video}
use Rattle.mp4_entry.specs.declared.sample_entry.SampleEntry.TheVariants.{Vp9Video as vp9_video, AacSound as aac_sound}
use Rattle.mp4_entry.specs.declared.sample_entry.SampleEntry.TheVariants.{Text as text, Other as other}
use Rattle.mp4_entry.specs.declared.sample_entry.SampleEntry.TheVariants.{NoKnown as no_known}
use Rattle.mp4_entry.specs.Avc1.{avc1_of, avc1_early, avc1_payload, avc1_refusal, IsInRangeAvc1, IsWellFormedAvc1}
use Rattle.mp4_entry.specs.Avc1.{avc1_of_config}
use Rattle.mp4_entry.specs.Hev1.{hev1_of, hev1_early, hev1_payload, IsInRangeHev1, IsWellFormedHev1, hev1_of_config}
use Rattle.mp4_entry.specs.Vp09.{vp09_of, vp09_early, vp09_payload, IsInRangeVp09, IsWellFormedVp09, vp09_of_config}
use Rattle.mp4_entry.specs.Mp4a.{mp4a_of, mp4a_payload, mp4a_refusal, IsInRangeMp4a, IsWellFormedMp4a, mp4a_of_config}
use Rattle.mp4_entry.specs.Tx3g.{tx3g_of, tx3g_payload, IsInRangeTx3g, IsWellFormedTx3g, default_tx3g}

-- the entry that a child is
unfoldable pub entry_of : ChildBox → Result SampleEntry Cause
entry_of c =
    if is_of avc1 c then seen avc_video (avc1_of c.1) else
    if is_of hev1 c then seen hevc_video (hev1_of c.1) else
    if is_of vp09 c then seen vp9_video (vp09_of c.1) else
    if is_of mp4a c then seen aac_sound (mp4a_of c.1) else
    if is_of tx3g c then seen text (tx3g_of c.1) else
    Ok (other c.0)

-- the entry that begins a payload, if any
abbrev pub entry_in : Option ChildBox → Result SampleEntry Cause
entry_in None = Ok no_known
entry_in (Some c) = entry_of c

abbrev pub no_entry : ℕ → ℕ → StsdBox
no_entry version flags =
    record {
      version = version;
      flags = flags;
      avc1 = None;
      hev1 = None;
      vp09 = None;
      mp4a = None;
      tx3g = None;
      other = None;
    }

-- the description that has this entry alone
abbrev pub with_entry : ℕ → ℕ → SampleEntry → StsdBox
with_entry version flags (avc_video e) = record (no_entry version flags) { avc1 = Some e }
with_entry version flags (hevc_video e) = record (no_entry version flags) { hev1 = Some e }
with_entry version flags (vp9_video e) = record (no_entry version flags) { vp09 = Some e }
with_entry version flags (aac_sound e) = record (no_entry version flags) { mp4a = Some e }
with_entry version flags (text e) = record (no_entry version flags) { tx3g = Some e }
with_entry version flags (other t) = record (no_entry version flags) { other = Some t }
with_entry version flags no_known = no_entry version flags

-- the description that a payload holds: its first entry, after a count that is not looked at
unfoldable pub stsd_of : List ℕ → Result StsdBox Cause
stsd_of payload = do
  version ← number_at 1 payload
  flags ← number_at 3 version.1
  count ← number_at 4 flags.1
  first ← next_at count.1
  entry ← entry_in first.0
  Ok (with_entry version.0 flags.0 entry)

-- what a child shows before memory is requested
unfoldable pub entry_early : ChildBox → Early
entry_early c =
    if is_of avc1 c then avc1_early c.1 else
    if is_of hev1 c then hev1_early c.1 else
    if is_of vp09 c then vp09_early c.1 else
    if is_of mp4a c then at_once (mp4a_of c.1) else
    if is_of tx3g c then at_once (tx3g_of c.1) else
    succeeds

abbrev pub first_early : Option ChildBox → Early
first_early None = succeeds
first_early (Some c) = entry_early c

-- what a payload shows: its fields, and then its first entry
unfoldable pub stsd_early : List ℕ → Early
stsd_early payload =
    number_at 1 payload before λ version.
    number_at 3 version.1 before λ flags.
    number_at 4 flags.1 before λ count.
    next_at count.1 before λ first.
    first_early first.0

-- an entry that is there, or what comes after it
abbrev pub present_or : {A : Type 0} → Option A → (A → SampleEntry) → SampleEntry → SampleEntry
present_or None entry later = later
present_or (Some x) entry later = entry x

-- the first of the entries that is there
abbrev pub first_entry : StsdBox → SampleEntry
first_entry b =
    present_or b.avc1 avc_video (
    present_or b.hev1 hevc_video (
    present_or b.vp09 vp9_video (
    present_or b.mp4a aac_sound (
    present_or b.tx3g text no_known))))

-- the entry that is borrowed
abbrev pub borrowed_entry : EntryRef → SampleEntry
borrowed_entry (AvcVideo e) = avc_video e.now
borrowed_entry (HevcVideo e) = hevc_video e.now
borrowed_entry (Vp9Video e) = vp9_video e.now
borrowed_entry (AacSound e) = aac_sound e.now
borrowed_entry (Text e) = text e.now
borrowed_entry NoKnown = no_known

-- how many entries are written
abbrev pub entry_count : SampleEntry → ℕ
entry_count (other t) = 0
entry_count no_known = 0
entry_count entry = 1

-- the box of an entry
abbrev pub entry_bytes : SampleEntry → List ℕ
entry_bytes (avc_video e) = box_bytes avc1 (avc1_payload e)
entry_bytes (hevc_video e) = box_bytes hev1 (hev1_payload e)
entry_bytes (vp9_video e) = box_bytes vp09 (vp09_payload e)
entry_bytes (aac_sound e) = box_bytes mp4a (mp4a_payload e)
entry_bytes (text e) = box_bytes tx3g (tx3g_payload e)
entry_bytes (other t) = []
entry_bytes no_known = []

-- why an entry is not written
abbrev pub entry_refusal : SampleEntry → Option Cause
entry_refusal (avc_video e) = avc1_refusal e
entry_refusal (hevc_video e) = None
entry_refusal (vp9_video e) = None
entry_refusal (aac_sound e) = mp4a_refusal e
entry_refusal (text e) = None
entry_refusal (other t) = None
entry_refusal no_known = None

-- the payload that holds a description
unfoldable pub stsd_payload : StsdBox → List ℕ
stsd_payload b =
    number 1 b.version ⧺ number 3 b.flags ⧺ number 4 (entry_count (first_entry b)) ⧺ entry_bytes (first_entry b)

abbrev pub stsd_refusal : StsdBox → Option Cause
stsd_refusal b = entry_refusal (first_entry b)

-- each number is within its type
pub record IsInRangeStsd (b : StsdBox) : Type 0 where
  pub version : b.version < 2 ^ 8
  pub avc1 : IfSome b.avc1 IsInRangeAvc1
  pub hev1 : IfSome b.hev1 IsInRangeHev1
  pub vp09 : IfSome b.vp09 IsInRangeVp09
  pub mp4a : IfSome b.mp4a IsInRangeMp4a
  pub tx3g : IfSome b.tx3g IsInRangeTx3g

-- what the layout of an entry asks of it; one of another type isn't written
abbrev pub IsWellFormedEntry : SampleEntry → Type 0
IsWellFormedEntry (avc_video e) = IsWellFormedAvc1 e
IsWellFormedEntry (hevc_video e) = IsWellFormedHev1 e
IsWellFormedEntry (vp9_video e) = IsWellFormedVp09 e
IsWellFormedEntry (aac_sound e) = IsWellFormedMp4a e
IsWellFormedEntry (text e) = IsWellFormedTx3g e
IsWellFormedEntry (other t) = ⊥
IsWellFormedEntry no_known = Unit {0}

-- flags have 24 bits, the entry is well-formed, and it is the only one
pub record IsWellFormedStsd (b : StsdBox) : Type 0 where
  pub flags : b.flags < 2 ^ 24
  pub entry : IsWellFormedEntry (first_entry b)
  pub only : with_entry b.version b.flags (first_entry b) ≡ b

-- a description that is written and reads back equal
abbrev pub IsCanonicalStsd : StsdBox → Type 0
IsCanonicalStsd = IsCanonical IsInRangeStsd IsWellFormedStsd stsd_payload stsd_refusal

abbrev pub default_stsd : StsdBox
default_stsd = no_entry 0 0

-- the entry that a configuration makes
abbrev pub entry_of_config : MediaConfig → SampleEntry
entry_of_config (Avc c) = avc_video (avc1_of_config c)
entry_of_config (Hevc c) = hevc_video (hev1_of_config c)
entry_of_config (Vp9 c) = vp9_video (vp09_of_config c)
entry_of_config (Aac c) = aac_sound (mp4a_of_config c)
entry_of_config (Ttxt c) = text default_tx3g

-- the description of a track that is begun with a configuration
abbrev pub stsd_of_config : MediaConfig → StsdBox
stsd_of_config c = with_entry 0 0 (entry_of_config c)
