use Rattle.mp4_codec.specs.FramingLaws.{reads_as_box}
use Rattle.mp4_codec.proofs.laws.box_has_its_header.Goals as goal

pub returns : goal.returns
returns c = reads_as_box
