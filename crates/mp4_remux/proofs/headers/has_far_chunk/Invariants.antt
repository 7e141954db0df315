use Rattle.std.proofs.Common.{◌-◌, ◌≡◌, ◌≤◌, ◌<◌, ◌^◌, ℕ, Some, length}
use Rattle.std.specs.Prelude.{slice_get}
use Rattle.mp4_remux.proofs.headers.has_far_chunk.Given as goal

-- the offsets that were looked at have 32 bits
abbrev pub invariant-loop-i : goal.invariant-loop-i
invariant-loop-i l = record {
  upto : l.i ≤ length l.offsets;
  offsets : l.offsets ≡ l.fn.table.entries;
  near : (offset j : ℕ) → j < l.i → slice_get l.fn.table.entries j ≡ Some offset → offset < 2 ^ 32;
}

abbrev pub decreases-loop-i : goal.decreases-loop-i
decreases-loop-i l = length l.offsets - l.i
