-- The lengths of boxes in boxes, for the check.
use Rattle.mp4_codec.specs.FieldLaws.{length-then}
use Rattle.mp4_codec.specs.FramingLaws.{length-box_bytes}

pub ruleset sizes = (length-box_bytes, length-then)
