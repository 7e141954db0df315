use Rattle.std.proofs.Common.{◌≡◌, ◌-◌, ◌^◌, length, min, take}
use Rattle.std.specs.List.{sum_by}
use Rattle.mp4_fragments.proofs.placing.count_runs.Given as goal

abbrev pub invariant-loop-traf : goal.invariant-loop-traf
invariant-loop-traf l = l.count ≡ min (sum_by (λ t. length t.truns) (take l.traf-index l.trafs)) (2 ^ 64 - 1)
