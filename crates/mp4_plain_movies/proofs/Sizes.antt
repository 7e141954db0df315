-- The lengths of numbers, for the check.
use Rattle.mp4_codec.specs.FieldLaws.{length-number}

pub ruleset sizes = (length-number)
