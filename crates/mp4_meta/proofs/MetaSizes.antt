-- The lengths of metadata, for the check.
use Rattle.mp4_codec.specs.FieldLaws.{length-then, length-zeros}
use Rattle.mp4_codec.specs.FramingLaws.{length-box_bytes}
use Rattle.mp4_meta.specs.MetaLaws.{length-mdir_handler}

pub ruleset meta_sizes = (length-box_bytes, length-then, length-zeros, length-mdir_handler)
