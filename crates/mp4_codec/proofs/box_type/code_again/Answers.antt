use Rattle.mp4_codec.proofs.BoxTypeLaws.{code_of-box_type}
use Rattle.std.proofs.Common.{rules}
use Rattle.mp4_codec.proofs.box_type.code_again.Goals as goal

pub returns : goal.returns
returns c = search (rules, code_of-box_type)
