use Rattle.std.proofs.Common.{◌-◌, ◌^◌, refl}
use Rattle.mp4_meta.specs.Meta.{child_box_bytes}
use Rattle.mp4_meta.proofs.ChildBoxBytes.{child_box_bytes-size}
use Rattle.mp4_meta.proofs.meta.children_size.Goals as goal

pub loop-child-init : goal.loop-child-init
unfolding child_box_bytes
loop-child-init c = refl

pub loop-child-preserved : goal.loop-child-preserved
loop-child-preserved c =
    child_box_bytes-size c.as_slice-child-items.result.now c.loop-child.child-index c.child-item.result
    c.loop-child-test.true c.child-item.is (2 ^ 64 - 1) c.loop-child.size c.size_as_box.result
    c.saturating_add-size.result c.loop-child.invariant c.size_as_box.ensures c.saturating_add-size.ensures
