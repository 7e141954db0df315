use Rattle.std.proofs.Common.{ℕ, ◌<◌, ◌≤◌, get_or}
use Rattle.mp4_search.proofs.bit_set.largest_of.Given as goal

-- the numbers so far are at most the largest so far
abbrev pub invariant-loop-number : goal.invariant-loop-number
invariant-loop-number l = (j d : ℕ) → j < l.number-index → get_or l.numbers j d ≤ l.largest
