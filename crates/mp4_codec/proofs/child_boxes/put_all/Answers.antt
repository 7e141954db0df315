use Rattle.std.proofs.Common.{◌^◌}
use Rattle.mp4_codec.specs.ListLaws.{box_fits, all_box_bytes-more}
use Rattle.mp4_codec.proofs.child_boxes.put_all.Goals as goal

pub put_box-requires : goal.put_box-requires
put_box-requires g c =
    let children = c.args.children.now in
    box_fits g.B.Mp4Box.KIND g.B.Mp4Box.payload children c.loop-child.child-index c.child-item.result
    c.loop-child-test.true
    c.child-item.is (2 ^ 32) c.requires

pub loop-child-preserved : goal.loop-child-preserved
loop-child-preserved g c =
    let children = c.args.children.now in
    all_box_bytes-more g.B.Mp4Box.KIND g.B.Mp4Box.payload children c.loop-child.child-index c.child-item.result
    c.loop-child-test.true
    c.child-item.is c.args.out.now.items c.loop-child.out.items c.put_box.new.out.items c.loop-child.invariant
    c.in_ok-put_box.ensures
