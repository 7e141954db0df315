-- The lengths of the tables, for the check.
use Rattle.mp4_codec.specs.FieldLaws.{length-numbers}
use Rattle.mp4_table.specs.SttsLaws.{length-stts_payload}
use Rattle.mp4_table.specs.CttsLaws.{length-ctts_payload}
use Rattle.mp4_table.specs.StssLaws.{length-stss_payload}
use Rattle.mp4_table.specs.StscLaws.{length-stsc_payload}
use Rattle.mp4_table.specs.StcoLaws.{length-stco_payload}
use Rattle.mp4_table.specs.Co64Laws.{length-co64_payload}
use Rattle.mp4_table.specs.StszLaws.{length-stsz_payload}

pub ruleset sizes = (
  length-stts_payload,
  length-ctts_payload,
  length-stss_payload,
  length-stsc_payload,
  length-stco_payload,
  length-co64_payload,
  length-stsz_payload,
  length-numbers,
)
