use Rattle.std.proofs.Common.{◌≡◌, ◌-◌, ◌^◌, min, length, take}
use Rattle.mp4_meta.specs.Meta.{child_box_bytes}
use Rattle.mp4_meta.proofs.meta.children_size.Given as goal

abbrev pub invariant-loop-child : goal.invariant-loop-child
invariant-loop-child l = l.size ≡ min (length (child_box_bytes (take l.child-index l.child-items))) (2 ^ 64 - 1)
