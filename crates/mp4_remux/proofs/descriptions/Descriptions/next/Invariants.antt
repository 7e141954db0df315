use Rattle.std.proofs.Common.{◌≡◌, ◌-◌, ◌≤◌, ℕ, drop, length}
use Rattle.mp4_remux.specs.Descriptions.{description_in}
use Rattle.mp4_remux.proofs.descriptions.Descriptions.next.Given as goal

-- runs that are over say nothing of the samples from this number on
abbrev pub invariant-loop-run : goal.invariant-loop-run
invariant-loop-run l = (later : ℕ) → l.k ≤ later → description_in (drop l.self.passed l.self.runs.items) later
    ≡ description_in (drop l.fn.self.passed l.fn.self.runs.items) later

abbrev pub decreases-loop-run : goal.decreases-loop-run
decreases-loop-run l = length l.self.runs.items - l.self.passed
