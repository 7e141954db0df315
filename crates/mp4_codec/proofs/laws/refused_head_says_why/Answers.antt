use Rattle.mp4_codec.specs.FramingLaws.{why_no_head, said_why}
use Rattle.mp4_codec.proofs.laws.refused_head_says_why.Goals as goal

pub returns : goal.returns
returns c = record { why = why_no_head; says = said_why }
