-- The sizes of the leaves.
use Rattle.mp4_leaf.specs.FtypLaws.{length-ftyp_payload}
use Rattle.mp4_leaf.specs.MvhdLaws.{length-mvhd_payload}
use Rattle.mp4_leaf.specs.TkhdLaws.{length-tkhd_payload}
use Rattle.mp4_leaf.specs.MdhdLaws.{length-mdhd_payload}
use Rattle.mp4_leaf.specs.HdlrLaws.{length-hdlr_payload}
use Rattle.mp4_leaf.specs.VmhdLaws.{length-vmhd_payload}
use Rattle.mp4_leaf.specs.SmhdLaws.{length-smhd_payload}
use Rattle.mp4_leaf.specs.DinfLaws.{length-url_payload, length-dref_payload, length-dinf_payload}
use Rattle.mp4_leaf.specs.ElstLaws.{length-elst_payload}
use Rattle.mp4_leaf.specs.DataLaws.{length-data_payload}

pub ruleset sizes = (
  length-ftyp_payload,
  length-mvhd_payload,
  length-tkhd_payload,
  length-mdhd_payload,
  length-hdlr_payload,
  length-vmhd_payload,
  length-smhd_payload,
  length-url_payload,
  length-dref_payload,
  length-dinf_payload,
  length-elst_payload,
  length-data_payload,
)
