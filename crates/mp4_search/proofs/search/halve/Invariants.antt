use Rattle.std.proofs.Common.{◌-◌, ◌+◌, ◌≤◌}
use Rattle.mp4_search.specs.Digits.{digits}
use Rattle.mp4_search.specs.Search.{IsBetween, at_most, comparisons_between}
use Rattle.mp4_search.proofs.Comparisons.{AreLeft}
use Rattle.mp4_search.proofs.search.halve.Given as goal

-- The digits of what is left pay for what is to come, and so many comparisons are left.
abbrev pub invariant-loop-low : goal.invariant-loop-low
invariant-loop-low l = record {
  between : IsBetween l.numbers l.key l.low l.high l.last;
  paid : l.readings + digits (l.high - l.low) ≤ l.fn.readings + digits (l.fn.between.high - l.fn.between.low);
  left : AreLeft (at_most l.numbers l.key) l.low l.high l.readings
      (l.fn.readings + comparisons_between (l.fn.between.high - l.fn.between.low) l.numbers l.key
      l.fn.between.low l.fn.between.high);
}

abbrev pub decreases-loop-low : goal.decreases-loop-low
decreases-loop-low l = l.high - l.low
