-- The lengths of boxes, for the check.
use Rattle.mp4_codec.specs.FramingLaws.{length-box_bytes}
use Rattle.mp4_codec.specs.FieldLaws.{length-then}
use Rattle.mp4_codec.specs.PutLaws.{nothing_added}

pub ruleset boxes = (length-box_bytes, length-then, nothing_added)
