use Rattle.std.proofs.Common.{◌≡◌, take}
use Rattle.mp4_table.proofs.stco.narrowed.Given as goal

abbrev pub invariant-loop-offset : goal.invariant-loop-offset
invariant-loop-offset l = l.narrow ≡ take l.offset-index l.offsets
