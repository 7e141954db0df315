use Rattle.std.proofs.Common.{◌≡◌, ◌-◌, ◌^◌, min, length, take}
use Rattle.mp4_codec.specs.Boxes.{all_box_bytes}
use Rattle.mp4_codec.proofs.child_boxes.all_size.Given as goal

abbrev pub invariant-loop-child : goal.invariant-loop-child
invariant-loop-child g l =
    l.size ≡ min (length (all_box_bytes g.B.Mp4Box.KIND g.B.Mp4Box.payload (take l.child-index l.children)))
    (2 ^ 64 - 1)
