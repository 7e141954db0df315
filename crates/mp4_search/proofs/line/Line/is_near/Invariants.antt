use Rattle.std.proofs.Common.{◌-◌, ◌/◌, ◌≡◌, ◌≤◌}
use Rattle.mp4_search.specs.Guess.{strays_among}
use Rattle.mp4_search.proofs.line.Line.is_near.Given as goal

-- So many of what was looked at have strayed, which isn't more than a quarter of all.
abbrev pub invariant-loop-looked : goal.invariant-loop-looked
invariant-loop-looked l = record {
  upto : l.looked ≤ l.count;
  strays : strays_among l.self l.numbers l.looked ≡ l.strayed;
  few : l.strayed ≤ l.count / 4;
}

abbrev pub decreases-loop-looked : goal.decreases-loop-looked
decreases-loop-looked l = l.count - l.looked
