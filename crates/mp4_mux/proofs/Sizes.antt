-- The lengths of boxes, for the check.
use Rattle.mp4_leaf.specs.FtypLaws.{length-ftyp_payload}

pub ruleset sizes = (length-ftyp_payload)
