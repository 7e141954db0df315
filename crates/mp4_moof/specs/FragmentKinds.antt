-- The leaves of fragments, as kinds of boxes that containers hold.
use Rattle.std.proofs.Common.{refl, lit<}
use Rattle.mp4_codec.specs.declared.box_type.BoxType.TheVariants.{MehdBox as mehd, TrexBox as trex, MfhdBox as mfhd}
use Rattle.mp4_codec.specs.declared.box_type.BoxType.TheVariants.{TfhdBox as tfhd, TfdtBox as tfdt, TrunBox as trun}
use Rattle.mp4_codec.specs.BoxType.{box_type}
use Rattle.mp4_codec.specs.Boxes.{no_refusal}
use Rattle.mp4_codec.specs.Framing.{IsEncodable}
use Rattle.mp4_codec.specs.WrittenParts.{Kind}
use Rattle.mp4_moof.specs.declared.mehd.MehdBox.{MehdBox}
use Rattle.mp4_moof.specs.Mehd.{mehd_of, mehd_payload, mehd_refusal, IsInRangeMehd, IsWellFormedMehd}
use Rattle.mp4_moof.specs.MehdLaws.{mehd_again}
use Rattle.mp4_moof.specs.declared.trex.TrexBox.{TrexBox}
use Rattle.mp4_moof.specs.Trex.{trex_of, trex_payload, IsInRangeTrex, IsWellFormedTrex}
use Rattle.mp4_moof.specs.TrexLaws.{trex_again}
use Rattle.mp4_moof.specs.declared.mfhd.MfhdBox.{MfhdBox}
use Rattle.mp4_moof.specs.Mfhd.{mfhd_of, mfhd_payload, IsInRangeMfhd, IsWellFormedMfhd}
use Rattle.mp4_moof.specs.MfhdLaws.{mfhd_again}
use Rattle.mp4_moof.specs.declared.tfhd.TfhdBox.{TfhdBox}
use Rattle.mp4_moof.specs.Tfhd.{tfhd_of, tfhd_payload, tfhd_refusal, IsInRangeTfhd, IsWellFormedTfhd}
use Rattle.mp4_moof.specs.TfhdLaws.{tfhd_again}
use Rattle.mp4_moof.specs.declared.tfdt.TfdtBox.{TfdtBox}
use Rattle.mp4_moof.specs.Tfdt.{tfdt_of, tfdt_payload, tfdt_refusal, IsInRangeTfdt, IsWellFormedTfdt}
use Rattle.mp4_moof.specs.TfdtLaws.{tfdt_again}
use Rattle.mp4_moof.specs.declared.trun.TrunBox.{TrunBox}
use Rattle.mp4_moof.specs.Trun.{trun_of, trun_payload, trun_refusal, IsInRangeTrun, IsWellFormedTrun}
use Rattle.mp4_moof.specs.TrunLaws.{trun_again}

pub encodable_mehd : IsEncodable mehd
unfolding box_type
encodable_mehd = record { named = refl; code = lit< tt }

abbrev pub mehd_kind : Kind MehdBox
mehd_kind = record {
  name = mehd;
  payload = mehd_payload;
  value = mehd_of;
  refusal = mehd_refusal;
  IsInRange = IsInRangeMehd;
  IsWellFormed = IsWellFormedMehd;
  encodable = encodable_mehd;
  again = mehd_again;
}

pub encodable_trex : IsEncodable trex
unfolding box_type
encodable_trex = record { named = refl; code = lit< tt }

abbrev pub trex_kind : Kind TrexBox
trex_kind = record {
  name = trex;
  payload = trex_payload;
  value = trex_of;
  refusal = no_refusal;
  IsInRange = IsInRangeTrex;
  IsWellFormed = IsWellFormedTrex;
  encodable = encodable_trex;
  again = trex_again;
}

pub encodable_mfhd : IsEncodable mfhd
unfolding box_type
encodable_mfhd = record { named = refl; code = lit< tt }

abbrev pub mfhd_kind : Kind MfhdBox
mfhd_kind = record {
  name = mfhd;
  payload = mfhd_payload;
  value = mfhd_of;
  refusal = no_refusal;
  IsInRange = IsInRangeMfhd;
  IsWellFormed = IsWellFormedMfhd;
  encodable = encodable_mfhd;
  again = mfhd_again;
}

pub encodable_tfhd : IsEncodable tfhd
unfolding box_type
encodable_tfhd = record { named = refl; code = lit< tt }

abbrev pub tfhd_kind : Kind TfhdBox
tfhd_kind = record {
  name = tfhd;
  payload = tfhd_payload;
  value = tfhd_of;
  refusal = tfhd_refusal;
  IsInRange = IsInRangeTfhd;
  IsWellFormed = IsWellFormedTfhd;
  encodable = encodable_tfhd;
  again = tfhd_again;
}

pub encodable_tfdt : IsEncodable tfdt
unfolding box_type
encodable_tfdt = record { named = refl; code = lit< tt }

abbrev pub tfdt_kind : Kind TfdtBox
tfdt_kind = record {
  name = tfdt;
  payload = tfdt_payload;
  value = tfdt_of;
  refusal = tfdt_refusal;
  IsInRange = IsInRangeTfdt;
  IsWellFormed = IsWellFormedTfdt;
  encodable = encodable_tfdt;
  again = tfdt_again;
}

pub encodable_trun : IsEncodable trun
unfolding box_type
encodable_trun = record { named = refl; code = lit< tt }

abbrev pub trun_kind : Kind TrunBox
trun_kind = record {
  name = trun;
  payload = trun_payload;
  value = trun_of;
  refusal = trun_refusal;
  IsInRange = IsInRangeTrun;
  IsWellFormed = IsWellFormedTrun;
  encodable = encodable_trun;
  again = trun_again;
}
