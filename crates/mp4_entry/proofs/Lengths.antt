-- Reading the length of a descriptor, a byte after the other.
use Rattle.std.proofs.Common.{◌≡◌, ℕ, zero, suc, ◌+◌, ◌-◌, ◌*◌, ◌^◌, ◌%◌, ◌≤◌, ◌<◌, List, refl, sym, ap, ◌∙◌, arith}
use Rattle.std.proofs.lemmas.Bool.{lt-ltb, le-ltb}
use Rattle.std.proofs.lemmas.Nat.{pow-add}
use Rattle.mp4_entry.specs.Descriptor.{padded_at, length_at}

-- so many bytes have said a length; the others say the rest of it
pub record Reading (whole : ℕ × List ℕ) (counter length : ℕ) (bytes : List ℕ) : Type 0 where
  pub small : length < 128 ^ counter
  pub so_far : length_at (4 - counter) length bytes ≡ whole

pub starts : (bytes : List ℕ) → Reading (length_at 4 0 bytes) 0 0 bytes
starts bytes = record { small = omega arith; so_far = refl }

pub few : (counter length : ℕ) → counter < 4 → length < 128 ^ counter → length < 2097152
few zero length h small = omega (arith, small)
few (suc zero) length h small = omega (arith, small)
few (suc (suc zero)) length h small = omega (arith, small)
few (suc (suc (suc zero))) length h small = omega (arith, small)
few (suc (suc (suc (suc counter)))) length h small = absurd (omega (arith, h))

module _ (whole : ℕ × List ℕ) (counter length : ℕ) (bytes : List ℕ) (byte : ℕ) (after : List ℕ) where
  pub ends : counter < 4 → (byte, after) ≡ padded_at 1 bytes → byte < 128 → Reading whole counter length bytes
      → (length * 128 + byte % 128, after) ≡ whole
  unfolding length_at
  ends h next low r =
      let left : 4 - counter ≡ suc (3 - counter) = omega arith in
      let one : length_at (4 - counter) length bytes ≡ (length * 128 + byte % 128, after) =
      rw (left, ← next, lt-ltb byte 128 low) refl in
      sym one ∙ r.so_far

  pub goes_on : counter < 4 → (byte, after) ≡ padded_at 1 bytes → 128 ≤ byte → Reading whole counter length bytes
      → Reading whole (counter + 1) (length * 128 + byte % 128) after
  unfolding length_at
  goes_on h next high r =
      let left : 4 - counter ≡ suc (3 - counter) = omega arith in
      let fewer : 4 - (counter + 1) ≡ 3 - counter = omega arith in
      let one : length_at (4 - counter) length bytes ≡ length_at (3 - counter) (length * 128 + byte % 128) after =
      rw (left, ← next, le-ltb byte 128 high) refl in
      let power : 128 ^ (counter + 1) ≡ 128 ^ counter * 128 = pow-add 128 counter 1 in
      record {
        small = omega (arith, power, r.small);
        so_far = ap (λ (n : ℕ). length_at n (length * 128 + byte % 128) after) fewer ∙ sym one ∙ r.so_far;
      }

pub is_done : (whole : ℕ × List ℕ) (counter length : ℕ) (bytes : List ℕ) → 4 ≤ counter
    → Reading whole counter length bytes → (length, bytes) ≡ whole
unfolding length_at
is_done whole counter length bytes h r =
    let none : 4 - counter ≡ 0 = omega arith in
    let one : length_at (4 - counter) length bytes ≡ (length, bytes) = rw none refl in
    sym one ∙ r.so_far
