use Rattle.std.proofs.Common.{◌-◌, ◌≡◌, ◌≤◌, length, drop, max}
use Rattle.mp4_remux.specs.PlannedRebuilt.{longest_after}
use Rattle.mp4_remux.proofs.movie_edits.longest_after.Given as goal

-- the longest so far or of those that are left is the longest of all
abbrev pub invariant-loop-i : goal.invariant-loop-i
invariant-loop-i l = record {
  upto : l.i ≤ length l.traks;
  same : max l.longest (longest_after (drop l.i l.traks) (drop l.i l.edits)) ≡ longest_after l.traks l.edits;
  traks_are : l.traks ≡ l.fn.traks;
  edits_are : l.edits ≡ l.fn.edits;
}

abbrev pub decreases-loop-i : goal.decreases-loop-i
decreases-loop-i l = length l.traks - l.i
