use Rattle.std.proofs.Common.{◌-◌, ◌≡◌, ◌≤◌, length, drop, max}
use Rattle.mp4_remux.specs.Headers.{longest}
use Rattle.mp4_remux.proofs.headers.longest.Given as goal

-- the longest so far or of those that are left is the longest of all
abbrev pub invariant-loop-i : goal.invariant-loop-i
invariant-loop-i l = record {
  upto : l.i ≤ length l.traks;
  same : max l.most (longest (drop l.i l.traks)) ≡ longest l.traks;
  traks : l.traks ≡ l.fn.traks;
}

abbrev pub decreases-loop-i : goal.decreases-loop-i
decreases-loop-i l = length l.traks - l.i
