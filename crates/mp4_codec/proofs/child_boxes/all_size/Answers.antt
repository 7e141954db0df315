use Rattle.std.proofs.Common.{◌-◌, ◌^◌}
use Rattle.mp4_codec.specs.ListLaws.{all_box_bytes-size}
use Rattle.mp4_codec.proofs.child_boxes.all_size.Goals as goal

pub loop-child-preserved : goal.loop-child-preserved
loop-child-preserved g c =
    all_box_bytes-size g.B.Mp4Box.KIND g.B.Mp4Box.payload c.args.children.now c.loop-child.child-index
    c.child-item.result c.loop-child-test.true c.child-item.is (2 ^ 64 - 1) c.loop-child.size c.box_size.result
    c.saturating_add-size.result c.loop-child.invariant c.box_size.ensures c.saturating_add-size.ensures
