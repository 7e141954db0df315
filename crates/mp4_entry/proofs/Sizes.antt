-- The lengths of the entries, for the check.
use Rattle.mp4_codec.specs.FramingLaws.{length-box_bytes}
use Rattle.mp4_codec.specs.PutLaws.{nothing_added}
use Rattle.mp4_entry.specs.VisualLaws.{length-visual_entry_payload}
use Rattle.mp4_entry.specs.AvccLaws.{length-unit, length-avcc_payload}
use Rattle.mp4_entry.specs.Avc1Laws.{length-avc1_payload}
use Rattle.mp4_entry.specs.HvccLaws.{length-hvcc_payload}
use Rattle.mp4_entry.specs.Hev1Laws.{length-hev1_payload}
use Rattle.mp4_entry.specs.VpccLaws.{length-vpcc_payload}
use Rattle.mp4_entry.specs.Vp09Laws.{length-vp09_payload}
use Rattle.mp4_entry.specs.StsdLaws.{length-stsd_payload}
use Rattle.mp4_entry.specs.Tx3gLaws.{length-tx3g_payload}
use Rattle.mp4_entry.specs.EsdsLaws.{length-esds_payload}
use Rattle.mp4_entry.specs.Mp4aLaws.{length-mp4a_payload}

pub ruleset sizes = (
  length-visual_entry_payload,
  length-unit,
  length-avcc_payload,
  length-avc1_payload,
  length-hvcc_payload,
  length-hev1_payload,
  length-vpcc_payload,
  length-vp09_payload,
  length-stsd_payload,
  length-tx3g_payload,
  length-esds_payload,
  length-mp4a_payload,
)

-- the length of the box of an entry, and that none adds nothing
pub ruleset boxes = (length-box_bytes, nothing_added)
