-- The leaves of metadata, as kinds of boxes that containers hold, and the types that metadata names.
use Rattle.std.proofs.Common.{refl, lit<}
use Rattle.mp4_codec.specs.declared.box_type.BoxType.TheVariants.{DataBox as data_box, HdlrBox as hdlr, NameBox as name}
use Rattle.mp4_codec.specs.declared.box_type.BoxType.TheVariants.{DayBox as day, CovrBox as covr, DescBox as desc}
use Rattle.mp4_codec.specs.BoxType.{box_type}
use Rattle.mp4_codec.specs.Boxes.{no_refusal}
use Rattle.mp4_codec.specs.Framing.{IsEncodable}
use Rattle.mp4_codec.specs.WrittenParts.{Kind}
use Rattle.mp4_leaf.specs.declared.hdlr.HdlrBox.{HdlrBox}
use Rattle.mp4_leaf.specs.Hdlr.{hdlr_of, hdlr_payload, IsInRangeHdlr, IsWellFormedHdlr}
use Rattle.mp4_leaf.specs.HdlrLaws.{hdlr_again}
use Rattle.mp4_leaf.specs.declared.data.DataBox.{DataBox}
use Rattle.mp4_leaf.specs.Data.{data_of, data_payload, IsInRangeData, IsWellFormedData}
use Rattle.mp4_leaf.specs.DataLaws.{data_again}

pub encodable_hdlr : IsEncodable hdlr
unfolding box_type
encodable_hdlr = record { named = refl; code = lit< tt }

abbrev pub hdlr_kind : Kind HdlrBox
hdlr_kind = record {
  name = hdlr;
  payload = hdlr_payload;
  value = hdlr_of;
  refusal = no_refusal;
  IsInRange = IsInRangeHdlr;
  IsWellFormed = IsWellFormedHdlr;
  encodable = encodable_hdlr;
  again = hdlr_again;
}

pub encodable_data : IsEncodable data_box
unfolding box_type
encodable_data = record { named = refl; code = lit< tt }

pub encodable_name : IsEncodable name
unfolding box_type
encodable_name = record { named = refl; code = lit< tt }

pub encodable_day : IsEncodable day
unfolding box_type
encodable_day = record { named = refl; code = lit< tt }

pub encodable_covr : IsEncodable covr
unfolding box_type
encodable_covr = record { named = refl; code = lit< tt }

pub encodable_desc : IsEncodable desc
unfolding box_type
encodable_desc = record { named = refl; code = lit< tt }

abbrev pub data_kind : Kind DataBox
data_kind = record {
  name = data_box;
  payload = data_payload;
  value = data_of;
  refusal = no_refusal;
  IsInRange = IsInRangeData;
  IsWellFormed = IsWellFormedData;
  encodable = encodable_data;
  again = data_again;
}
