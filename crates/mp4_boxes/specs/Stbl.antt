-- The sample table of a track (ISO/IEC 14496-12, 8.5.1).
use Rattle.std.specs.Prelude.{ℕ, List, Option, Some, None, Result, Ok, Err, IfSome}
use Rattle.mp4_codec.specs.declared.box_type.BoxType.TheVariants.{StsdBox as stsd, SttsBox as stts, CttsBox as ctts}
use Rattle.mp4_codec.specs.declared.box_type.BoxType.TheVariants.{StssBox as stss, StscBox as stsc, StszBox as stsz}
use Rattle.mp4_codec.specs.declared.box_type.BoxType.TheVariants.{StcoBox as stco, Co64Box as co64}
use Rattle.mp4_codec.specs.Cause.{Cause, box2_not_found, ◌>>=◌, ◌or◌}
use Rattle.mp4_codec.specs.Bytes.{◌⧺◌}
use Rattle.mp4_codec.specs.Boxes.{box_bytes, optional, IsCanonical}
use Rattle.mp4_codec.specs.Early.{Early, early_gathered, early_last, at_once, refused_at_once, ◌and_then◌}
use Rattle.mp4_codec.specs.Children.{ChildBox, children, gathered, fault_in, last_of, with_last, needed}
use Rattle.mp4_entry.specs.declared.stsd.StsdBox.{StsdBox}
use Rattle.mp4_table.specs.declared.stts.SttsBox.{SttsBox}
use Rattle.mp4_table.specs.declared.stsc.StscBox.{StscBox}
use Rattle.mp4_table.specs.declared.stsz.StszBox.{StszBox}
use Rattle.mp4_table.specs.declared.stco.StcoBox.{StcoBox}
use Rattle.mp4_table.specs.declared.co64.Co64Box.{Co64Box}
use Rattle.mp4_entry.specs.Stsd.{stsd_of, stsd_early, stsd_payload}
use Rattle.mp4_entry.specs.Stsd.{stsd_refusal, IsInRangeStsd, IsWellFormedStsd, default_stsd}
use Rattle.mp4_table.specs.Stts.{stts_of, stts_payload, IsInRangeStts, IsWellFormedStts, default_stts}
use Rattle.mp4_table.specs.Ctts.{ctts_of, ctts_payload, IsInRangeCtts, IsWellFormedCtts}
use Rattle.mp4_table.specs.Stss.{stss_of, stss_payload, IsInRangeStss, IsWellFormedStss}
use Rattle.mp4_table.specs.Stsc.{stsc_of, stsc_payload, IsInRangeStsc, IsWellFormedStsc, default_stsc}
use Rattle.mp4_table.specs.Stsz.{stsz_of, stsz_payload, stsz_refusal, IsInRangeStsz, IsWellFormedStsz, default_stsz}
use Rattle.mp4_table.specs.Stco.{stco_of, stco_payload, IsInRangeStco, IsWellFormedStco}
use Rattle.mp4_table.specs.Co64.{co64_of, co64_payload, IsInRangeCo64, IsWellFormedCo64}
use Rattle.mp4_boxes.specs.declared.stbl.StblBox.{StblBox}
use Rattle.mp4_boxes.specs.declared.stbl.StblParts.{StblParts}

-- the number of samples of the track's tables (ISO/IEC 14496-12, 8.7.3)
abbrev pub sample_count : StblBox → ℕ
sample_count t = t.stsz.sample_count

-- why a child refuses the sample table
unfoldable pub stbl_fault : ChildBox → Option Cause
stbl_fault c =
    fault_in stsd stsd_of c or (fault_in stts stts_of c or (fault_in ctts ctts_of c or (fault_in stss stss_of c
    or (fault_in stsc stsc_of c or (fault_in stsz stsz_of c or (fault_in stco stco_of c or fault_in co64 co64_of c))))))

-- what is taken of the children: the last of each type
unfoldable pub stbl_taken : List ChildBox → StblParts
stbl_taken cs = record {
  stsd = last_of stsd stsd_of cs;
  stts = last_of stts stts_of cs;
  ctts = last_of ctts ctts_of cs;
  stss = last_of stss stss_of cs;
  stsc = last_of stsc stsc_of cs;
  stsz = last_of stsz stsz_of cs;
  stco = last_of stco stco_of cs;
  co64 = last_of co64 co64_of cs;
}

-- the same with one child more
unfoldable pub stbl_added : StblParts → ChildBox → Result StblParts Cause
stbl_added p c = do
  description ← with_last stsd stsd_of c p.stsd
  durations ← with_last stts stts_of c p.stts
  offsets ← with_last ctts ctts_of c p.ctts
  syncs ← with_last stss stss_of c p.stss
  chunks ← with_last stsc stsc_of c p.stsc
  sizes ← with_last stsz stsz_of c p.stsz
  places ← with_last stco stco_of c p.stco
  far_places ← with_last co64 co64_of c p.co64
  Ok (record {
    stsd = description;
    stts = durations;
    ctts = offsets;
    stss = syncs;
    stsc = chunks;
    stsz = sizes;
    stco = places;
    co64 = far_places;
  })

-- where the chunks lie, in 32 bits or in 64: one of the two has to be there
abbrev pub needed_places : Option StcoBox → Option Co64Box → Result (Option StcoBox × Option Co64Box) Cause
needed_places None None = Err (box2_not_found stco co64)
needed_places (Some places) far_places = Ok (Some places, far_places)
needed_places None (Some far_places) = Ok (None, Some far_places)

-- the sample table that a payload holds: all but ctts and stss have to be there, of stco and co64 one
unfoldable pub stbl_of : List ℕ → Result StblBox Cause
stbl_of payload = do
  parts ← gathered stbl_fault stbl_taken (children payload)
  description ← needed stsd parts.stsd
  durations ← needed stts parts.stts
  chunks ← needed stsc parts.stsc
  sizes ← needed stsz parts.stsz
  places ← needed_places parts.stco parts.co64
  Ok (record {
    stsd = description;
    stts = durations;
    ctts = parts.ctts;
    stss = parts.stss;
    stsc = chunks;
    stsz = sizes;
    stco = places.0;
    co64 = places.1;
  })

-- what a child shows before memory is requested
unfoldable pub stbl_child_early : ChildBox → Early
stbl_child_early c =
    early_last stsd stsd_early c
    and_then (early_last stts (λ p. refused_at_once (stts_of p)) c
    and_then (early_last ctts (λ p. refused_at_once (ctts_of p)) c
    and_then (early_last stss (λ p. refused_at_once (stss_of p)) c
    and_then (early_last stsc (λ p. refused_at_once (stsc_of p)) c
    and_then (early_last stsz (λ p. refused_at_once (stsz_of p)) c
    and_then (early_last stco (λ p. refused_at_once (stco_of p)) c
    and_then (early_last co64 (λ p. refused_at_once (co64_of p)) c)))))))

-- what a payload shows before memory is requested: its children, and then what is missing
unfoldable pub stbl_early : List ℕ → Early
stbl_early payload = early_gathered stbl_child_early (children payload) and_then at_once (stbl_of payload)

-- the payload that holds a sample table
unfoldable pub stbl_payload : StblBox → List ℕ
stbl_payload b =
    box_bytes stsd (stsd_payload b.stsd) ⧺ box_bytes stts (stts_payload b.stts) ⧺ optional ctts ctts_payload b.ctts
    ⧺ optional stss stss_payload b.stss ⧺ box_bytes stsc (stsc_payload b.stsc) ⧺ box_bytes stsz (stsz_payload b.stsz)
    ⧺ optional stco stco_payload b.stco ⧺ optional co64 co64_payload b.co64

-- why a sample table is not written: the description first, then the sizes; no other table is refused
unfoldable pub stbl_refusal : StblBox → Option Cause
stbl_refusal b = stsd_refusal b.stsd or stsz_refusal b.stsz

-- each number is within its type
pub record IsInRangeStbl (b : StblBox) : Type 0 where
  pub stsd : IsInRangeStsd b.stsd
  pub stts : IsInRangeStts b.stts
  pub ctts : IfSome b.ctts IsInRangeCtts
  pub stss : IfSome b.stss IsInRangeStss
  pub stsc : IsInRangeStsc b.stsc
  pub stsz : IsInRangeStsz b.stsz
  pub stco : IfSome b.stco IsInRangeStco
  pub co64 : IfSome b.co64 IsInRangeCo64

-- one of the two tables says where the chunks lie, in 32 bits or in 64
abbrev pub HasPlaces : Option StcoBox → Option Co64Box → Type 0
HasPlaces None None = ⊥
HasPlaces (Some places) far_places = Unit {0}
HasPlaces None (Some far_places) = Unit {0}

-- its children are well-formed, and stco or co64 is there
pub record IsWellFormedStbl (b : StblBox) : Type 0 where
  pub stsd : IsWellFormedStsd b.stsd
  pub stts : IsWellFormedStts b.stts
  pub ctts : IfSome b.ctts IsWellFormedCtts
  pub stss : IfSome b.stss IsWellFormedStss
  pub stsc : IsWellFormedStsc b.stsc
  pub stsz : IsWellFormedStsz b.stsz
  pub stco : IfSome b.stco IsWellFormedStco
  pub co64 : IfSome b.co64 IsWellFormedCo64
  pub places : HasPlaces b.stco b.co64

-- a sample table that is written and reads back equal
abbrev pub IsCanonicalStbl : StblBox → Type 0
IsCanonicalStbl = IsCanonical IsInRangeStbl IsWellFormedStbl stbl_payload stbl_refusal

-- a sample table of defaults, without places of chunks
abbrev pub default_stbl : StblBox
default_stbl = record {
  stsd = default_stsd;
  stts = default_stts;
  ctts = None;
  stss = None;
  stsc = default_stsc;
  stsz = default_stsz;
  stco = None;
  co64 = None;
}
