-- The leaves of movies and tracks, as kinds of boxes that containers hold.
use Rattle.std.proofs.Common.{refl, lit<}
use Rattle.mp4_codec.specs.declared.box_type.BoxType.TheVariants.{MvhdBox as mvhd, TkhdBox as tkhd, ElstBox as elst}
use Rattle.mp4_codec.specs.declared.box_type.BoxType.TheVariants.{MdhdBox as mdhd, VmhdBox as vmhd}
use Rattle.mp4_codec.specs.declared.box_type.BoxType.TheVariants.{SmhdBox as smhd, DinfBox as dinf}
use Rattle.mp4_codec.specs.BoxType.{box_type}
use Rattle.mp4_codec.specs.Boxes.{no_refusal}
use Rattle.mp4_codec.specs.Framing.{IsEncodable}
use Rattle.mp4_codec.specs.WrittenParts.{Kind}
use Rattle.mp4_leaf.specs.declared.mvhd.MvhdBox.{MvhdBox}
use Rattle.mp4_leaf.specs.Mvhd.{mvhd_of, mvhd_payload, mvhd_refusal, IsInRangeMvhd, IsWellFormedMvhd}
use Rattle.mp4_leaf.specs.MvhdLaws.{mvhd_again}
use Rattle.mp4_leaf.specs.declared.tkhd.TkhdBox.{TkhdBox}
use Rattle.mp4_leaf.specs.Tkhd.{tkhd_of, tkhd_payload, tkhd_refusal, IsInRangeTkhd, IsWellFormedTkhd}
use Rattle.mp4_leaf.specs.TkhdLaws.{tkhd_again}
use Rattle.mp4_leaf.specs.declared.elst.ElstBox.{ElstBox}
use Rattle.mp4_leaf.specs.Elst.{elst_of, elst_payload, elst_refusal, IsInRangeElst, IsWellFormedElst}
use Rattle.mp4_leaf.specs.ElstLaws.{elst_again}
use Rattle.mp4_leaf.specs.declared.mdhd.MdhdBox.{MdhdBox}
use Rattle.mp4_leaf.specs.Mdhd.{mdhd_of, mdhd_payload, mdhd_refusal, IsInRangeMdhd, IsWellFormedMdhd}
use Rattle.mp4_leaf.specs.MdhdLaws.{mdhd_again}
use Rattle.mp4_leaf.specs.declared.vmhd.VmhdBox.{VmhdBox}
use Rattle.mp4_leaf.specs.Vmhd.{vmhd_of, vmhd_payload, IsInRangeVmhd, IsWellFormedVmhd}
use Rattle.mp4_leaf.specs.VmhdLaws.{vmhd_again}
use Rattle.mp4_leaf.specs.declared.smhd.SmhdBox.{SmhdBox}
use Rattle.mp4_leaf.specs.Smhd.{smhd_of, smhd_payload, IsInRangeSmhd, IsWellFormedSmhd}
use Rattle.mp4_leaf.specs.SmhdLaws.{smhd_again}
use Rattle.mp4_leaf.specs.declared.dinf.DinfBox.{DinfBox}
use Rattle.mp4_leaf.specs.Dinf.{dinf_of, dinf_payload, IsInRangeDinf, IsWellFormedDinf}
use Rattle.mp4_leaf.specs.DinfLaws.{dinf_again}

pub encodable_mvhd : IsEncodable mvhd
unfolding box_type
encodable_mvhd = record { named = refl; code = lit< tt }

abbrev pub mvhd_kind : Kind MvhdBox
mvhd_kind = record {
  name = mvhd;
  payload = mvhd_payload;
  value = mvhd_of;
  refusal = mvhd_refusal;
  IsInRange = IsInRangeMvhd;
  IsWellFormed = IsWellFormedMvhd;
  encodable = encodable_mvhd;
  again = mvhd_again;
}

pub encodable_tkhd : IsEncodable tkhd
unfolding box_type
encodable_tkhd = record { named = refl; code = lit< tt }

abbrev pub tkhd_kind : Kind TkhdBox
tkhd_kind = record {
  name = tkhd;
  payload = tkhd_payload;
  value = tkhd_of;
  refusal = tkhd_refusal;
  IsInRange = IsInRangeTkhd;
  IsWellFormed = IsWellFormedTkhd;
  encodable = encodable_tkhd;
  again = tkhd_again;
}

pub encodable_elst : IsEncodable elst
unfolding box_type
encodable_elst = record { named = refl; code = lit< tt }

abbrev pub elst_kind : Kind ElstBox
elst_kind = record {
  name = elst;
  payload = elst_payload;
  value = elst_of;
  refusal = elst_refusal;
  IsInRange = IsInRangeElst;
  IsWellFormed = IsWellFormedElst;
  encodable = encodable_elst;
  again = elst_again;
}

pub encodable_mdhd : IsEncodable mdhd
unfolding box_type
encodable_mdhd = record { named = refl; code = lit< tt }

abbrev pub mdhd_kind : Kind MdhdBox
mdhd_kind = record {
  name = mdhd;
  payload = mdhd_payload;
  value = mdhd_of;
  refusal = mdhd_refusal;
  IsInRange = IsInRangeMdhd;
  IsWellFormed = IsWellFormedMdhd;
  encodable = encodable_mdhd;
  again = mdhd_again;
}

pub encodable_vmhd : IsEncodable vmhd
unfolding box_type
encodable_vmhd = record { named = refl; code = lit< tt }

abbrev pub vmhd_kind : Kind VmhdBox
vmhd_kind = record {
  name = vmhd;
  payload = vmhd_payload;
  value = vmhd_of;
  refusal = no_refusal;
  IsInRange = IsInRangeVmhd;
  IsWellFormed = IsWellFormedVmhd;
  encodable = encodable_vmhd;
  again = vmhd_again;
}

pub encodable_smhd : IsEncodable smhd
unfolding box_type
encodable_smhd = record { named = refl; code = lit< tt }

abbrev pub smhd_kind : Kind SmhdBox
smhd_kind = record {
  name = smhd;
  payload = smhd_payload;
  value = smhd_of;
  refusal = no_refusal;
  IsInRange = IsInRangeSmhd;
  IsWellFormed = IsWellFormedSmhd;
  encodable = encodable_smhd;
  again = smhd_again;
}

pub encodable_dinf : IsEncodable dinf
unfolding box_type
encodable_dinf = record { named = refl; code = lit< tt }

abbrev pub dinf_kind : Kind DinfBox
dinf_kind = record {
  name = dinf;
  payload = dinf_payload;
  value = dinf_of;
  refusal = no_refusal;
  IsInRange = IsInRangeDinf;
  IsWellFormed = IsWellFormedDinf;
  encodable = encodable_dinf;
  again = dinf_again;
}
