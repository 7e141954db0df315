use Rattle.std.proofs.Common.{◌^◌}
use Rattle.mp4_codec.specs.PutLaws.{nothing_added}
use Rattle.mp4_meta.specs.Meta.{child_box_bytes}
use Rattle.mp4_meta.proofs.ChildBoxBytes.{child_fits, child_box_bytes-more}
use Rattle.mp4_meta.proofs.meta.put_children.Goals as goal

pub loop-child-init : goal.loop-child-init
unfolding child_box_bytes
loop-child-init c = nothing_added c.args.out.now.items

pub put_child-requires : goal.put_child-requires
put_child-requires c =
    let children = c.as_slice-child-items.result.now in
    child_fits children c.loop-child.child-index c.child-item.result c.loop-child-test.true
    c.child-item.is (2 ^ 32) (rw c.as_slice-child-items.ensures c.requires)

pub loop-child-preserved : goal.loop-child-preserved
loop-child-preserved c =
    child_box_bytes-more c.as_slice-child-items.result.now c.loop-child.child-index c.child-item.result
    c.loop-child-test.true
    c.child-item.is c.args.out.now.items c.loop-child.out.items c.put_child.new.out.items c.loop-child.invariant
    c.in_ok-put_child.ensures
