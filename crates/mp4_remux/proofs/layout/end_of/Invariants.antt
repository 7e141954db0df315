use Rattle.std.proofs.Common.{◌-◌, ◌≤◌, ℕ, drop, length, take}
use Rattle.mp4_remux.specs.Splice.{Follow}
use Rattle.mp4_remux.proofs.layout.end_of.Given as goal

-- the pieces that were looked at follow each other to this end, and where all do, so do the others from there
abbrev pub invariant-loop-i : goal.invariant-loop-i
invariant-loop-i l = record {
  upto : l.i ≤ length l.pieces;
  follow : Follow l.source_len l.made_len 0 (take l.i l.pieces) l.end;
  rest : (e : ℕ) → Follow l.source_len l.made_len 0 l.pieces e
      → Follow l.source_len l.made_len l.end (drop l.i l.pieces) e;
}

abbrev pub decreases-loop-i : goal.decreases-loop-i
decreases-loop-i l = length l.pieces - l.i
