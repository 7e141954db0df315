use Rattle.std.proofs.Common.{◌≡◌, ◌≤◌, ◌*◌, ℕ, length}
use Rattle.std.specs.List.{list_any}
use Rattle.mp4_remux.specs.Moved.{IsBy, numbers_in, passes, size_of}
use Rattle.mp4_remux.proofs.chunk_offsets.needs_64_bits.Given as goal

-- those that are left decide
abbrev pub invariant-loop-left : goal.invariant-loop-left
invariant-loop-left l = record {
  room : l.left * size_of l.width ≤ length l.rest;
  decides : (to : ℕ → ℕ) → IsBy l.moves to
      → list_any (passes to) (numbers_in l.left (size_of l.width) l.rest)
      ≡ list_any (passes to) (numbers_in l.fn.count (size_of l.width) l.fn.entries);
}

abbrev pub decreases-loop-left : goal.decreases-loop-left
decreases-loop-left l = l.left
