-- A bit that is set is that of its number, and no other's.
use Rattle.std.proofs.Common.{◌≡◌, ℕ, true, ◌*◌, ◌/◌, ◌%◌, ◌^◌, ◌<◌, List, length, replicate}
use Rattle.std.proofs.Common.{slice_set, slice_index_or, bit_or, w64, refl, sym, arith, ⊎_elim}
use Rattle.std.proofs.Common.{◌+◌, Some, None, ◌≤◌, ◌∙◌}
use Rattle.std.specs.Prelude.{◌==◌, ◌||◌, false, Bool, min, nat_lt, if◌then◌else◌, IsSome}
use Rattle.std.specs.List.{All, list_any}
use Rattle.std.proofs.Math.Bool.{or-true, or-false}
use Rattle.std.proofs.lemmas.Bool.{cases_eq, eq-eqb, ne_eqb}
use Rattle.std.proofs.lemmas.List.{get_or-set_same, get_or-set_other, get_or-replicate}
use Rattle.std.proofs.lemmas.Nat.Bits.{bit_at_set_same, bit_at_set_other, bit_at-zero}
use Rattle.std.proofs.Math.Nat.{min-eq_left, min-eq_right}
use Rattle.std.proofs.lemmas.Bool.{cases_lt, lt-ltb, le-ltb}
use Rattle.std.proofs.lemmas.List.Folds.{list_any_none}
use Rattle.std.proofs.lemmas.Option.{same_Some, none-some}
use Rattle.mp4_search.specs.BitSet.{AreBitsOf, bit_of, has_bit}
use Rattle.mp4_search.specs.declared.bit_set.BitSet.{BitSet}

-- the words with the bit of n
abbrev pub with_bit : List ℕ → ℕ → List ℕ
with_bit words n =
    slice_set words (n / 64) (bit_or (slice_index_or words (n / 64) 0) (1 * 2 ^ (n % 64) % 18446744073709551616))

own : (words : List ℕ) (n : ℕ) → n / 64 < length words → has_bit (with_bit words n) n ≡ true
unfolding has_bit
own words n h =
    let word = bit_or (slice_index_or words (n / 64) 0) (1 * 2 ^ (n % 64) % 18446744073709551616) in
    rw (
      get_or-set_same words (n / 64) word 0 h,
      bit_at_set_same w64 (slice_index_or words (n / 64) 0) (n % 64) (omega arith),
    ) refl

other : (words : List ℕ) (n k : ℕ) → n / 64 < length words → (n ≡ k → ⊥)
    → has_bit (with_bit words n) k ≡ has_bit words k
unfolding has_bit
other words n k h apart =
    let word = bit_or (slice_index_or words (n / 64) 0) (1 * 2 ^ (n % 64) % 18446744073709551616) in
    ⊎_elim
    (λ (e : k / 64 ≡ n / 64).
    rw (
      e,
      get_or-set_same words (n / 64) word 0 h,
      bit_at_set_other w64 (slice_index_or words (n / 64) 0) (n % 64) (omega arith) (k % 64)
          (λ d. apart (omega (arith, d, e))),
    ) refl)
    (λ ne. rw (get_or-set_other words (n / 64) (k / 64) word 0 ne) refl)
    (cases_eq (k / 64) (n / 64))

pub one_more : (words : List ℕ) (n k : ℕ) → n / 64 < length words
    → has_bit (with_bit words n) k ≡ (has_bit words k || (n == k))
one_more words n k h =
    ⊎_elim
    (λ (e : n ≡ k). rw (sym e, own words n h, eq-eqb n n refl) (sym (or-true (has_bit words n))))
    (λ ne. rw (other words n k h ne, ne_eqb n k ne) (sym (or-false (has_bit words k))))
    (cases_eq n k)

-- a number past the words has no bit there
pub none_set : (count k : ℕ) → k < 64 * count → has_bit (replicate count 0) k ≡ false
unfolding has_bit
none_set count k h = let none : ℕ = 0 in
    rw (get_or-replicate count (k / 64) none none (omega arith), bit_at-zero (k % 64)) refl

-- a number above all is none of them
pub none_above : (numbers : List ℕ) (largest k : ℕ) → All (λ n. n ≤ largest) numbers → largest < k
    → list_any (λ n. n == k) numbers ≡ false
none_above numbers largest k most h =
    list_any_none (λ n. n == k) numbers (λ j d within. ne_eqb _ _ (λ e. omega (arith, most j d within, h, e)))

past_bits : (numbers : List ℕ) (k : ℕ) (b whole : Bool) → (whole ≡ true → list_any (λ n. n == k) numbers ≡ false)
    → Some b ≡ (if whole then Some false else None) → b ≡ list_any (λ n. n == k) numbers
past_bits numbers k b true none e = same_Some _ _ e ∙ sym (none refl)
past_bits numbers k b false none e = absurd (none-some b (sym e))

-- what is known of a number is right
pub known_is : (numbers : List ℕ) (s : BitSet) (k : ℕ) (b : Bool) → AreBitsOf numbers s → Some b ≡ bit_of s k
    → b ≡ list_any (λ n. n == k) numbers
known_is numbers s k b bits e =
    ⊎_elim
    (λ (h : k < 64 * length s.words.items).
    same_Some _ _ (rw (lt-ltb k (64 * length s.words.items) h) at e) ∙ bits.each k h)
    (λ h. past_bits numbers k b s.is_whole (λ w. bits.whole w k h)
    (rw (le-ltb k (64 * length s.words.items) h) at e))
    (cases_lt k (64 * length s.words.items))

-- words with a bit for each number up to the largest have one for each number of the set
pub all_past : (numbers : List ℕ) (largest limit count k : ℕ) → All (λ n. n ≤ largest) numbers → largest ≤ limit
    → count ≡ min largest limit / 64 + 1 → 64 * count ≤ k → list_any (λ n. n == k) numbers ≡ false
all_past numbers largest limit count k most fits e h =
    none_above numbers largest k most (omega (arith, min-eq_left fits, e, h))

-- words with a bit for each number up to the largest, or up to the limit where that is less, know each up to the limit
pub known_below : (words : List ℕ) (is_whole : Bool) (largest limit k : ℕ)
    → length words ≡ min largest limit / 64 + 1 → (largest ≤ limit → is_whole ≡ true) → k ≤ limit
    → IsSome (if nat_lt k (64 * length words) then Some (has_bit words k) else if is_whole then Some false else None)
known_below words is_whole largest limit k e whole h =
    ⊎_elim
    (λ (within : k < 64 * length words). rw (lt-ltb k (64 * length words) within) refl)
    (λ past. rw (le-ltb k (64 * length words) past, whole (fits past)) refl)
    (cases_lt k (64 * length words))
  where
    fits : 64 * length words ≤ k → largest ≤ limit
    fits past =
        ⊎_elim
        (λ (above : limit < largest).
        absurd (omega (arith, e, past, h, min-eq_right {n = limit} {m = largest} (omega (arith, above)))))
        (λ q. q)
        (cases_lt limit largest)
