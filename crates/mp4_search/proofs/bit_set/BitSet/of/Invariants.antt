use Rattle.std.proofs.Common.{◌≡◌, ℕ, ◌+◌, ◌*◌, ◌/◌, ◌<◌, length, take}
use Rattle.std.specs.Prelude.{◌==◌, min}
use Rattle.std.specs.List.{list_any}
use Rattle.mp4_search.specs.BitSet.{has_bit}
use Rattle.mp4_search.proofs.bit_set.BitSet.of.Given as goal

-- the bits of the numbers so far are set, and no others
abbrev pub invariant-loop-number : goal.invariant-loop-number
invariant-loop-number l = record {
  bits : (k : ℕ) → k < 64 * length l.words.items
      → has_bit l.words.items k ≡ list_any (λ n. n == k) (take l.number-index l.numbers);
  count : length l.words.items ≡ min l.largest l.limit / 64 + 1;
}
