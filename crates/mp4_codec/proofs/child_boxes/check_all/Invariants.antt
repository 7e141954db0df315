use Rattle.std.proofs.Common.{◌≡◌, take, None}
use Rattle.mp4_codec.specs.Boxes.{all_refusal}
use Rattle.mp4_codec.proofs.child_boxes.check_all.Given as goal

abbrev pub invariant-loop-child : goal.invariant-loop-child
invariant-loop-child g l = all_refusal g.B.WriteBox.refusal (take l.child-index l.children) ≡ None
