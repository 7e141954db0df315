use Rattle.std.proofs.Common.{◌-◌, ◌+◌, ◌≡◌, ◌≤◌, length, drop}
use Rattle.mp4_remux.specs.Headers.{edits_time}
use Rattle.mp4_remux.proofs.headers.time_of.Given as goal

-- the time so far and that of the edits that are left are the time of all
abbrev pub invariant-loop-i : goal.invariant-loop-i
invariant-loop-i l = record {
  upto : l.i ≤ length l.edits;
  same : l.time + edits_time (drop l.i l.edits) ≡ edits_time l.edits;
  edits : l.edits ≡ l.fn.edits;
}

abbrev pub decreases-loop-i : goal.decreases-loop-i
decreases-loop-i l = length l.edits - l.i
