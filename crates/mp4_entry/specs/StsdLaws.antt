-- A sample description is read as it was written.
use Rattle.std.proofs.Common.{◌≡◌, ℕ, ◌+◌, ◌^◌, ◌<◌, List, [], length, Option, Some, None, Result, Ok, refl, lit<}
use Rattle.std.proofs.Common.{arith}
use Rattle.std.specs.Prelude.{IfSome}
use Rattle.mp4_codec.specs.declared.box_type.BoxType.{BoxType}
use Rattle.mp4_codec.specs.declared.box_type.BoxType.TheVariants.{Avc1Box as avc1, Hev1Box as hev1, Vp09Box as vp09}
use Rattle.mp4_codec.specs.declared.box_type.BoxType.TheVariants.{Mp4aBox as mp4a, Tx3gBox as tx3g}
use Rattle.mp4_codec.specs.BoxType.{box_type}
use Rattle.mp4_codec.specs.Cause.{Cause, seen}
use Rattle.mp4_codec.specs.Boxes.{box_bytes, no_refusal, IsCanonical}
use Rattle.mp4_codec.specs.Children.{ChildBox, next_at}
use Rattle.mp4_codec.specs.FieldLaws.{number_again, length-number, length-then}
use Rattle.mp4_codec.specs.Framing.{IsEncodable}
use Rattle.mp4_codec.specs.FramingLaws.{length-box_bytes}
use Rattle.mp4_codec.specs.WriteLaws.{is_written, write_cause-none}
use Rattle.mp4_codec.specs.WrittenChildren.{next_at-box_bytes}
use Rattle.mp4_entry.specs.declared.stsd.StsdBox.{StsdBox}
use Rattle.mp4_entry.specs.Avc1.{avc1_of, avc1_payload, avc1_refusal, IsInRangeAvc1, IsWellFormedAvc1}
use Rattle.mp4_entry.specs.Avc1Laws.{avc1_again}
use Rattle.mp4_entry.specs.Hev1.{hev1_of, hev1_payload, IsInRangeHev1, IsWellFormedHev1}
use Rattle.mp4_entry.specs.Hev1Laws.{hev1_again}
use Rattle.mp4_entry.specs.Vp09.{vp09_of, vp09_payload, IsInRangeVp09, IsWellFormedVp09}
use Rattle.mp4_entry.specs.Vp09Laws.{vp09_again}
use Rattle.mp4_entry.specs.Mp4a.{mp4a_of, mp4a_payload, mp4a_refusal, IsInRangeMp4a, IsWellFormedMp4a}
use Rattle.mp4_entry.specs.Mp4aLaws.{mp4a_again}
use Rattle.mp4_entry.specs.Tx3g.{tx3g_of, tx3g_payload, IsInRangeTx3g, IsWellFormedTx3g}
use Rattle.mp4_entry.specs.Tx3gLaws.{tx3g_again}
use Rattle.mp4_entry.specs.declared.sample_entry.SampleEntry.{SampleEntry}
use Rattle.mp4_entry.specs.declared.sample_entry.SampleEntry.TheVariants.{AvcVideo as avc_video}
use Rattle.mp4_entry.specs.declared.sample_entry.SampleEntry.TheVariants.{HevcVideo as hevc_video}
use Rattle.mp4_entry.specs.declared.sample_entry.SampleEntry.TheVariants.{Vp9Video as vp9_video, AacSound as aac_sound}
use Rattle.mp4_entry.specs.declared.sample_entry.SampleEntry.TheVariants.{Text as text, Other as other}
use Rattle.mp4_entry.specs.declared.sample_entry.SampleEntry.TheVariants.{NoKnown as no_known}
use Rattle.mp4_entry.specs.Stsd.{entry_of, entry_in, stsd_of, present_or}
use Rattle.mp4_entry.specs.Stsd.{first_entry, entry_count, entry_bytes, entry_refusal, stsd_payload, stsd_refusal}
use Rattle.mp4_entry.specs.Stsd.{IsInRangeStsd, IsWellFormedEntry, IsCanonicalStsd}

pub length-stsd_payload : (b : StsdBox) → length (stsd_payload b) ≡ 8 + length (entry_bytes (first_entry b))
unfolding stsd_payload
length-stsd_payload b = simp (length-then, length-number) (omega arith)

-- the numbers of an entry are within their types
abbrev IsInRangeEntry : SampleEntry → Type 0
IsInRangeEntry (avc_video e) = IsInRangeAvc1 e
IsInRangeEntry (hevc_video e) = IsInRangeHev1 e
IsInRangeEntry (vp9_video e) = IsInRangeVp09 e
IsInRangeEntry (aac_sound e) = IsInRangeMp4a e
IsInRangeEntry (text e) = IsInRangeTx3g e
IsInRangeEntry (other t) = Unit {0}
IsInRangeEntry no_known = Unit {0}

present_in_range : {A : Type 0} (o : Option A) (InRange : A → Type 0) (entry : A → SampleEntry) (later : SampleEntry)
    → ((x : A) → InRange x → IsInRangeEntry (entry x)) → IfSome o InRange → IsInRangeEntry later
    → IsInRangeEntry (present_or o entry later)
present_in_range None InRange entry later each own others = others
present_in_range (Some x) InRange entry later each own others = each x own

first_in_range : (b : StsdBox) → IsInRangeStsd b → IsInRangeEntry (first_entry b)
first_in_range b f =
    present_in_range b.avc1 IsInRangeAvc1 avc_video _ (λ x h. h) f.avc1 (
    present_in_range b.hev1 IsInRangeHev1 hevc_video _ (λ x h. h) f.hev1 (
    present_in_range b.vp09 IsInRangeVp09 vp9_video _ (λ x h. h) f.vp09 (
    present_in_range b.mp4a IsInRangeMp4a aac_sound _ (λ x h. h) f.mp4a (
    present_in_range b.tx3g IsInRangeTx3g text _ (λ x h. h) f.tx3g tt))))

-- what is written of an entry is read as that entry
record ReadsAs (bytes : List ℕ) (entry : SampleEntry) : Type 0 where
  first : Option ChildBox
  rest : List ℕ
  next : next_at bytes ≡ Ok (first, rest)
  is : entry_in first ≡ Ok entry

-- an entry of a type whose payloads are read as they were written
box_again : {B : Type 0} (t : BoxType) (value : List ℕ → Result B Cause) (entry : B → SampleEntry)
    (InRange WellFormed : B → Type 0) (payload : B → List ℕ) (refusal : B → Option Cause)
    → ((bytes : List ℕ) → entry_of (t, bytes) ≡ seen entry (value bytes)) → IsEncodable t
    → ((e : B) → IsCanonical InRange WellFormed payload refusal e → value (payload e) ≡ Ok e)
    → (e : B) → InRange e → WellFormed e → refusal e ≡ None → length (box_bytes t (payload e)) < 2 ^ 32
    → ReadsAs (box_bytes t (payload e)) (entry e)
box_again t value entry InRange WellFormed payload refusal of_type encodable again e in_range well_formed sound small =
    let fits : 8 + length (payload e) < 2 ^ 32 = omega (arith, small, length-box_bytes t (payload e)) in
    let written = write_cause-none (payload e) (refusal e) fits sound in
    let reads = again e (record { in_range = in_range; well_formed = well_formed; written = written }) in
    record {
      first = Some (t, payload e);
      rest = [];
      next = next_at-box_bytes t (payload e) encodable fits;
      is = rw (of_type (payload e), reads) refl;
    }

entry_again : (entry : SampleEntry) → IsInRangeEntry entry → IsWellFormedEntry entry → entry_refusal entry ≡ None
    → length (entry_bytes entry) < 2 ^ 32 → ReadsAs (entry_bytes entry) entry
unfolding entry_of box_type
entry_again (avc_video e) =
    box_again avc1 avc1_of avc_video IsInRangeAvc1 IsWellFormedAvc1 avc1_payload avc1_refusal
    (λ bytes. refl) (record { named = refl; code = lit< tt }) avc1_again e
entry_again (hevc_video e) =
    box_again hev1 hev1_of hevc_video IsInRangeHev1 IsWellFormedHev1 hev1_payload no_refusal
    (λ bytes. refl) (record { named = refl; code = lit< tt }) hev1_again e
entry_again (vp9_video e) =
    box_again vp09 vp09_of vp9_video IsInRangeVp09 IsWellFormedVp09 vp09_payload no_refusal
    (λ bytes. refl) (record { named = refl; code = lit< tt }) vp09_again e
entry_again (aac_sound e) =
    box_again mp4a mp4a_of aac_sound IsInRangeMp4a IsWellFormedMp4a mp4a_payload mp4a_refusal
    (λ bytes. refl) (record { named = refl; code = lit< tt }) mp4a_again e
entry_again (text e) =
    box_again tx3g tx3g_of text IsInRangeTx3g IsWellFormedTx3g tx3g_payload no_refusal
    (λ bytes. refl) (record { named = refl; code = lit< tt }) tx3g_again e
entry_again (other t) = λ in_range well_formed sound small. absurd well_formed
entry_again no_known =
    λ in_range well_formed sound small. record { first = None; rest = []; next = refl; is = refl }

few : (entry : SampleEntry) → entry_count entry < 256 ^ 4
few (other t) = lit< tt
few no_known = lit< tt
few entry = lit< tt

pub stsd_again : (b : StsdBox) → IsCanonicalStsd b → stsd_of (stsd_payload b) ≡ Ok b
unfolding stsd_of stsd_payload
stsd_again b f =
    let written = is_written (stsd_payload b) (stsd_refusal b) f.written in
    let small : length (entry_bytes (first_entry b)) < 2 ^ 32 = omega (arith, written.small, length-stsd_payload b) in
    let r = entry_again (first_entry b) (first_in_range b f.in_range) f.well_formed.entry written.sound small in
    rw (
      number_again 1 b.version _ f.in_range.version,
      number_again 3 b.flags _ f.well_formed.flags,
      number_again 4 (entry_count (first_entry b)) _ (few (first_entry b)),
      r.next,
      r.is,
      f.well_formed.only,
    ) refl
