use Rattle.std.proofs.Common.{◌≡◌, ◌-◌, ◌^◌, ◌++◌, ℕ, min, map, drop}
use Rattle.mp4_remux.specs.Descriptions.{fragment_runs, within_32_bits}
use Rattle.mp4_remux.proofs.descriptions.push_fragments.Given as goal

-- with the runs of the track fragments that come next all are there
abbrev pub invariant-loop-traf : goal.invariant-loop-traf
invariant-loop-traf l =
    (before : ℕ) × ((l.last ≡ min (2 ^ 32 - 1) before)
    × (l.runs.items ++ map within_32_bits (fragment_runs l.default before (drop l.traf-index l.trafs))
    ≡ l.fn.runs.items ++ map within_32_bits (fragment_runs l.default l.count l.trafs)))
