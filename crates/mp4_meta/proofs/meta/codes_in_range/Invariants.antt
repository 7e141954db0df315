use Rattle.std.proofs.Common.{take}
use Rattle.std.specs.List.{AllByRecursion}
use Rattle.mp4_meta.specs.Meta.{HasCode}
use Rattle.mp4_meta.proofs.meta.codes_in_range.Given as goal

abbrev pub invariant-loop-child : goal.invariant-loop-child
invariant-loop-child l = AllByRecursion HasCode (take l.child-index l.child-items)
