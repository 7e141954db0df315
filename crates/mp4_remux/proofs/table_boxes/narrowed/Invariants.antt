use Rattle.std.proofs.Common.{◌≡◌, take}
use Rattle.mp4_remux.proofs.table_boxes.narrowed.Given as goal

abbrev pub invariant-loop-offset : goal.invariant-loop-offset
invariant-loop-offset l = l.near.items ≡ take l.offset-index l.offsets
