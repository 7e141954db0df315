use Rattle.std.proofs.Common.{◌≡◌, take}
use Rattle.mp4_codec.proofs.try_clone.TryClone.try_clone_all.Given as goal

abbrev pub invariant-loop-value : goal.invariant-loop-value
invariant-loop-value g l = l.copies ≡ take l.value-index l.values
