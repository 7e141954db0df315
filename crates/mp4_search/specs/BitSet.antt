-- Which numbers are among some numbers, by a bit for each of those below a bound.
use Rattle.std.specs.Prelude.{◌≡◌, ℕ, ◌*◌, ◌/◌, ◌%◌, ◌<◌, ◌≤◌, Bool, true, false, List, length, slice_index, nat_lt}
use Rattle.std.specs.Prelude.{Option, Some, None, ◌==◌, if◌then◌else◌, IsSome}
use Rattle.std.specs.List.{list_any}
use Rattle.std.specs.Int.{bit_at}
use Rattle.mp4_search.specs.declared.bit_set.BitSet.{BitSet}

-- whether the bit of k is 1, in words of 64 bits
unfoldable pub has_bit : List ℕ → ℕ → Bool
has_bit words k = bit_at (slice_index words (k / 64)) (k % 64) == 1

-- whether k is in the set: known of each number that has a bit, and of all others too where each number of the set has
-- one
abbrev pub bit_of : BitSet → ℕ → Option Bool
bit_of s k =
    if nat_lt k (64 * length s.words.items) then Some (has_bit s.words.items k) else
    if s.is_whole then Some false else None

-- how many words are looked at for k: one where it has a bit
abbrev pub looks_at_bit : BitSet → ℕ → ℕ
looks_at_bit s k = if nat_lt k (64 * length s.words.items) then 1 else 0

-- each bit says whether its number is among these; where the set is whole, no number past the bits is
pub record AreBitsOf (numbers : List ℕ) (s : BitSet) : Type 0 where
  pub each : (k : ℕ) → k < 64 * length s.words.items → has_bit s.words.items k ≡ list_any (λ n. n == k) numbers
  pub whole : s.is_whole ≡ true → (k : ℕ) → 64 * length s.words.items ≤ k → list_any (λ n. n == k) numbers ≡ false

-- of each number up to the limit it is known whether it is in the set
pub record KnowsUpTo (limit : ℕ) (s : BitSet) : Type 0 where
  pub known : (k : ℕ) → k ≤ limit → IsSome (bit_of s k)
