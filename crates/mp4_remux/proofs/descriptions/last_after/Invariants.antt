use Rattle.std.proofs.Common.{◌≡◌, ◌+◌, ◌-◌, ◌^◌, min, take}
use Rattle.mp4_remux.specs.Descriptions.{samples_in}
use Rattle.mp4_remux.proofs.descriptions.last_after.Given as goal

abbrev pub invariant-loop-trun : goal.invariant-loop-trun
invariant-loop-trun l = l.last ≡ min (2 ^ 32 - 1) (l.before + samples_in (take l.trun-index l.truns))
