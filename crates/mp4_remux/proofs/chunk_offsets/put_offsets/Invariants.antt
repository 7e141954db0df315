use Rattle.std.proofs.Common.{◌≡◌, ◌≤◌, ◌*◌, ◌++◌, ℕ, length}
use Rattle.std.specs.List.{flat_map}
use Rattle.mp4_remux.specs.Moved.{IsBy, numbers_in, size_of, wide_bytes}
use Rattle.mp4_remux.proofs.chunk_offsets.put_offsets.Given as goal

-- with those that are left all are there
abbrev pub invariant-loop-left : goal.invariant-loop-left
invariant-loop-left l = record {
  room : l.left * size_of l.width ≤ length l.rest;
  added : (to : ℕ → ℕ) → IsBy l.moves to
      → l.out.items ++ flat_map (λ offset. wide_bytes l.is_wide (to offset))
      (numbers_in l.left (size_of l.width) l.rest)
      ≡ l.fn.out.items ++ flat_map (λ offset. wide_bytes l.is_wide (to offset))
      (numbers_in l.fn.count (size_of l.width) l.fn.entries);
}

abbrev pub decreases-loop-left : goal.decreases-loop-left
decreases-loop-left l = l.left
