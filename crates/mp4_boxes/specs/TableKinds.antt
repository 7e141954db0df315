-- The tables of a track's samples, as kinds of boxes that containers hold.
use Rattle.std.proofs.Common.{refl, lit<}
use Rattle.mp4_codec.specs.declared.box_type.BoxType.TheVariants.{StsdBox as stsd, SttsBox as stts, CttsBox as ctts}
use Rattle.mp4_codec.specs.declared.box_type.BoxType.TheVariants.{StssBox as stss, StscBox as stsc, StszBox as stsz}
use Rattle.mp4_codec.specs.declared.box_type.BoxType.TheVariants.{StcoBox as stco, Co64Box as co64}
use Rattle.mp4_codec.specs.BoxType.{box_type}
use Rattle.mp4_codec.specs.Boxes.{no_refusal}
use Rattle.mp4_codec.specs.Framing.{IsEncodable}
use Rattle.mp4_codec.specs.WrittenParts.{Kind}
use Rattle.mp4_entry.specs.declared.stsd.StsdBox.{StsdBox}
use Rattle.mp4_table.specs.declared.stts.SttsBox.{SttsBox}
use Rattle.mp4_table.specs.declared.ctts.CttsBox.{CttsBox}
use Rattle.mp4_table.specs.declared.stss.StssBox.{StssBox}
use Rattle.mp4_table.specs.declared.stsc.StscBox.{StscBox}
use Rattle.mp4_table.specs.declared.stsz.StszBox.{StszBox}
use Rattle.mp4_table.specs.declared.stco.StcoBox.{StcoBox}
use Rattle.mp4_table.specs.declared.co64.Co64Box.{Co64Box}
use Rattle.mp4_entry.specs.Stsd.{stsd_of, stsd_payload, stsd_refusal, IsInRangeStsd, IsWellFormedStsd}
use Rattle.mp4_entry.specs.StsdLaws.{stsd_again}
use Rattle.mp4_table.specs.Stts.{stts_of, stts_payload, IsInRangeStts, IsWellFormedStts}
use Rattle.mp4_table.specs.SttsLaws.{stts_again}
use Rattle.mp4_table.specs.Ctts.{ctts_of, ctts_payload, IsInRangeCtts, IsWellFormedCtts}
use Rattle.mp4_table.specs.CttsLaws.{ctts_again}
use Rattle.mp4_table.specs.Stss.{stss_of, stss_payload, IsInRangeStss, IsWellFormedStss}
use Rattle.mp4_table.specs.StssLaws.{stss_again}
use Rattle.mp4_table.specs.Stsc.{stsc_of, stsc_payload, IsInRangeStsc, IsWellFormedStsc}
use Rattle.mp4_table.specs.StscLaws.{stsc_again}
use Rattle.mp4_table.specs.Stsz.{stsz_of, stsz_payload, stsz_refusal, IsInRangeStsz, IsWellFormedStsz}
use Rattle.mp4_table.specs.StszLaws.{stsz_again}
use Rattle.mp4_table.specs.Stco.{stco_of, stco_payload, IsInRangeStco, IsWellFormedStco}
use Rattle.mp4_table.specs.StcoLaws.{stco_again}
use Rattle.mp4_table.specs.Co64.{co64_of, co64_payload, IsInRangeCo64, IsWellFormedCo64}
use Rattle.mp4_table.specs.Co64Laws.{co64_again}

pub encodable_stsd : IsEncodable stsd
unfolding box_type
encodable_stsd = record { named = refl; code = lit< tt }

pub encodable_stts : IsEncodable stts
unfolding box_type
encodable_stts = record { named = refl; code = lit< tt }

pub encodable_ctts : IsEncodable ctts
unfolding box_type
encodable_ctts = record { named = refl; code = lit< tt }

pub encodable_stss : IsEncodable stss
unfolding box_type
encodable_stss = record { named = refl; code = lit< tt }

pub encodable_stsc : IsEncodable stsc
unfolding box_type
encodable_stsc = record { named = refl; code = lit< tt }

pub encodable_stsz : IsEncodable stsz
unfolding box_type
encodable_stsz = record { named = refl; code = lit< tt }

pub encodable_stco : IsEncodable stco
unfolding box_type
encodable_stco = record { named = refl; code = lit< tt }

pub encodable_co64 : IsEncodable co64
unfolding box_type
encodable_co64 = record { named = refl; code = lit< tt }

abbrev pub stsd_kind : Kind StsdBox
stsd_kind = record {
  name = stsd;
  payload = stsd_payload;
  value = stsd_of;
  refusal = stsd_refusal;
  IsInRange = IsInRangeStsd;
  IsWellFormed = IsWellFormedStsd;
  encodable = encodable_stsd;
  again = stsd_again;
}

abbrev pub stts_kind : Kind SttsBox
stts_kind = record {
  name = stts;
  payload = stts_payload;
  value = stts_of;
  refusal = no_refusal;
  IsInRange = IsInRangeStts;
  IsWellFormed = IsWellFormedStts;
  encodable = encodable_stts;
  again = stts_again;
}

abbrev pub ctts_kind : Kind CttsBox
ctts_kind = record {
  name = ctts;
  payload = ctts_payload;
  value = ctts_of;
  refusal = no_refusal;
  IsInRange = IsInRangeCtts;
  IsWellFormed = IsWellFormedCtts;
  encodable = encodable_ctts;
  again = ctts_again;
}

abbrev pub stss_kind : Kind StssBox
stss_kind = record {
  name = stss;
  payload = stss_payload;
  value = stss_of;
  refusal = no_refusal;
  IsInRange = IsInRangeStss;
  IsWellFormed = IsWellFormedStss;
  encodable = encodable_stss;
  again = stss_again;
}

abbrev pub stsc_kind : Kind StscBox
stsc_kind = record {
  name = stsc;
  payload = stsc_payload;
  value = stsc_of;
  refusal = no_refusal;
  IsInRange = IsInRangeStsc;
  IsWellFormed = IsWellFormedStsc;
  encodable = encodable_stsc;
  again = stsc_again;
}

abbrev pub stsz_kind : Kind StszBox
stsz_kind = record {
  name = stsz;
  payload = stsz_payload;
  value = stsz_of;
  refusal = stsz_refusal;
  IsInRange = IsInRangeStsz;
  IsWellFormed = IsWellFormedStsz;
  encodable = encodable_stsz;
  again = stsz_again;
}

abbrev pub stco_kind : Kind StcoBox
stco_kind = record {
  name = stco;
  payload = stco_payload;
  value = stco_of;
  refusal = no_refusal;
  IsInRange = IsInRangeStco;
  IsWellFormed = IsWellFormedStco;
  encodable = encodable_stco;
  again = stco_again;
}

abbrev pub co64_kind : Kind Co64Box
co64_kind = record {
  name = co64;
  payload = co64_payload;
  value = co64_of;
  refusal = no_refusal;
  IsInRange = IsInRangeCo64;
  IsWellFormed = IsWellFormedCo64;
  encodable = encodable_co64;
  again = co64_again;
}
