use Rattle.std.proofs.Common.{◌≡◌, ℕ, ◌-◌, ◌+◌, ◌<◌, ◌≤◌, true, false}
use Rattle.mp4_search.specs.Digits.{digits}
use Rattle.mp4_search.specs.Partition.{asked_in}
use Rattle.mp4_search.proofs.Comparisons.{AreLeft}
use Rattle.mp4_search.proofs.partition.partition_point.Given as goal

-- Those before `low` have it and those from `high` on don't; the digits of what is left pay for what is to come, and so
-- many are left to be asked for.
abbrev pub invariant-loop-low : goal.invariant-loop-low
invariant-loop-low g l = record {
  ordered : l.low ≤ l.high;
  within : l.high ≤ l.n;
  first : (i : ℕ) → i < l.low → g.P.Parted.has l.values i ≡ true;
  others : (i : ℕ) → l.high ≤ i → i < l.n → g.P.Parted.has l.values i ≡ false;
  paid : l.readings + digits (l.high - l.low) ≤ l.fn.readings + digits l.n;
  left : AreLeft (g.P.Parted.has l.values) l.low l.high l.readings
      (l.fn.readings + asked_in (g.P.Parted.has l.values) l.n);
}

abbrev pub decreases-loop-low : goal.decreases-loop-low
decreases-loop-low g l = l.high - l.low
