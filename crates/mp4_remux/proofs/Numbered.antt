-- Lists whose values were looked at, one after the other, by their numbers from 0 on.
use Rattle.std.proofs.Common.{◌≡◌, ℕ, zero, suc, ◌+◌, ◌≤◌, ◌<◌, Bool, true, false, nat_lt, List, [], ◌∷◌, length, drop}
use Rattle.std.proofs.Common.{Some, refl, subst, arith}
use Rattle.std.proofs.lemmas.Bool.{ltb-true, ltb-false}
use Rattle.std.specs.Prelude.{slice_get, slice_index_or}

-- what is there at a number is what is read there
pub got : {X : Type 0} (xs : List X) (i : ℕ) (x d : X) → slice_get xs i ≡ Some x → slice_index_or xs i d ≡ x
got [] i x d e = absurd cc
got (y ∷ ys) zero x d e = cc
got (y ∷ ys) (suc i) x d e = got ys i x d e

pub got_within : {X : Type 0} (xs : List X) (i : ℕ) (x : X) → slice_get xs i ≡ Some x → i < length xs
got_within [] i x e = absurd cc
got_within (y ∷ ys) zero x e = omega arith
got_within (y ∷ ys) (suc i) x e = omega (arith, got_within ys i x e)

-- what holds of those that were looked at, and of their numbers, holds of one more
pub each_numbered_more : {X : Type 0} (xs : List X) (P : X → ℕ → Type 0) (i : ℕ) (d : X)
    → ((x : X) (j : ℕ) → j < i → slice_get xs j ≡ Some x → P x j) → P (slice_index_or xs i d) i
    → (x : X) (j : ℕ) → j < i + 1 → slice_get xs j ≡ Some x → P x j
each_numbered_more {X} xs P i d upto this x j lt there = by (nat_lt j i) refl
  where
    by : (c : Bool) → nat_lt j i ≡ c → P x j
    by true less = upto x j (ltb-true j i less) there
    by false ge =
        let last : j ≡ i = omega (arith, lt, ltb-false j i ge) in
        rw last (subst (λ y. P y i) (got xs i x d (subst (λ n. slice_get xs n ≡ Some x) last there)) this)

-- what holds of those that were looked at holds of one more
pub each_more : {X : Type 0} (xs : List X) (P : X → Type 0) (i : ℕ) (d : X)
    → ((x : X) (j : ℕ) → j < i → slice_get xs j ≡ Some x → P x) → P (slice_index_or xs i d)
    → (x : X) (j : ℕ) → j < i + 1 → slice_get xs j ≡ Some x → P x
each_more xs P i d upto this = each_numbered_more xs (λ x j. P x) i d upto this

-- what is at a number that is there
pub at_index : {X : Type 0} (xs : List X) (i : ℕ) (d : X) → i < length xs
    → slice_get xs i ≡ Some (slice_index_or xs i d)
at_index [] i d lt = absurd (omega (arith, lt))
at_index (x ∷ xs) zero d lt = refl
at_index (x ∷ xs) (suc i) d lt = at_index xs i d (omega (arith, lt))

-- what is left from a number on begins with what is there
pub drop_next : {X : Type 0} (xs : List X) (i n : ℕ) (d : X) → i < length xs → n ≡ suc i
    → drop i xs ≡ slice_index_or xs i d ∷ drop n xs
drop_next [] i n d lt e = absurd (omega (arith, lt))
drop_next (x ∷ xs) zero n d lt e = rw e refl
drop_next (x ∷ xs) (suc i) n d lt e = rw e (drop_next xs i (suc i) d (omega (arith, lt)) refl)

-- past the last there is nothing left
pub drop_all : {X : Type 0} (xs : List X) (i : ℕ) → length xs ≤ i → drop i xs ≡ []
drop_all [] zero le = refl
drop_all [] (suc i) le = refl
drop_all (x ∷ xs) zero le = absurd (omega (arith, le))
drop_all (x ∷ xs) (suc i) le = drop_all xs i (omega (arith, le))
