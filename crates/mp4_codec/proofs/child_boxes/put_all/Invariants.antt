use Rattle.std.proofs.Common.{take}
use Rattle.mp4_codec.specs.Bytes.{Appends}
use Rattle.mp4_codec.specs.Boxes.{all_box_bytes}
use Rattle.mp4_codec.proofs.child_boxes.put_all.Given as goal

abbrev pub invariant-loop-child : goal.invariant-loop-child
invariant-loop-child g l =
    Appends l.fn.out.items l.out.items
    (all_box_bytes g.B.Mp4Box.KIND g.B.Mp4Box.payload (take l.child-index l.children))
