-- The lengths of the leaves, for the check.
use Rattle.mp4_moof.specs.MfhdLaws.{length-mfhd_payload}
use Rattle.mp4_moof.specs.TfhdLaws.{length-tfhd_payload}
use Rattle.mp4_moof.specs.TrunLaws.{length-trun_payload}
use Rattle.mp4_moof.specs.TfdtLaws.{length-tfdt_payload}
use Rattle.mp4_moof.specs.MehdLaws.{length-mehd_payload}
use Rattle.mp4_moof.specs.TrexLaws.{length-trex_payload}
use Rattle.mp4_moof.specs.EmsgLaws.{length-emsg_payload}

pub ruleset sizes = (
  length-mfhd_payload,
  length-tfhd_payload,
  length-trun_payload,
  length-tfdt_payload,
  length-mehd_payload,
  length-trex_payload,
  length-emsg_payload,
)
