use Rattle.std.proofs.Common.{take}
use Rattle.mp4_codec.specs.Bytes.{Appends}
use Rattle.mp4_meta.specs.Meta.{child_box_bytes}
use Rattle.mp4_meta.proofs.meta.put_children.Given as goal

abbrev pub invariant-loop-child : goal.invariant-loop-child
invariant-loop-child l = Appends l.fn.out.items l.out.items (child_box_bytes (take l.child-index l.child-items))
