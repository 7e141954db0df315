-- Ids that are found among those that are sorted, or aren't there.
use Rattle.std.proofs.Common.{◌≡◌, ℕ, zero, suc, ◌<◌, ◌≤◌, ◌==◌, ◌||◌, ◌&&◌, not, Bool, true, false, nat_lt, List, []}
use Rattle.std.proofs.Common.{◌∷◌, ◌++◌, ◌+◌, drop, length}
use Rattle.std.proofs.Common.{Result, Ok, Err, refl, sym, arith, slice_index_or}
use Rattle.std.proofs.lemmas.Bool.{eq-eqb, ltb-false, ltb-true, ne_eqb, or_right}
use Rattle.std.proofs.lemmas.List.Sorted.{IsNonDecreasingBy-from_sort, list_any-IsPermutation, searched}
use Rattle.std.specs.List.{filter}
use Rattle.std.specs.List.Sorted.{IsBinarySearchResult, IsPermutation, IsSorted}
use Rattle.std.specs.Ordering.{nat_cmp}
use Rattle.std.specs.Result.{is_ok}
use Rattle.mp4_remux.specs.declared.reference.Reference.{Reference}
use Rattle.mp4_remux.specs.References.{goes, contains_id, stays}
use Rattle.mp4_remux.proofs.Referring.{pass_less, pass_more}

-- one is there
there : (xs : List ℕ) (x k : ℕ) → k < length xs → slice_index_or xs k 0 ≡ x → true ≡ contains_id xs x
there [] x k lt is = absurd (omega (arith, lt))
there (y ∷ ys) x zero lt is = rw (eq-eqb y x is) refl
there (y ∷ ys) x (suc k) lt is = sym (or_right (y == x) _ (sym (there ys x k (omega (arith, lt)) is)))

-- none is
not_there : (xs : List ℕ) (x : ℕ) → ((k : ℕ) → k < length xs → slice_index_or xs k 0 ≡ x → ⊥) → false ≡ contains_id xs x
not_there [] x none = refl
not_there (y ∷ ys) x none =
    rw (ne_eqb y x (none 0 (omega arith)))
    (not_there ys x (λ k lt is. none (suc k) (omega (arith, lt)) is))

pub found_by : (xs : List ℕ) (x : ℕ) (r : Result ℕ ℕ) → IsSorted nat_cmp xs
    → IsBinarySearchResult (λ y. nat_cmp y x) xs r → is_ok r ≡ contains_id xs x
found_by xs x (Ok i) sorted found =
    let rises = IsNonDecreasingBy-from_sort (λ n. n) xs sorted in
    let s = searched xs x (Ok i) found (λ i j le lt. rises i j 0 le lt) in
    there xs x i s.0 s.1
found_by xs x (Err i) sorted found =
    let rises = IsNonDecreasingBy-from_sort (λ n. n) xs sorted in
    let s = searched xs x (Err i) found (λ i j le lt. rises i j 0 le lt) in
    not_there xs x (λ k lt is. by xs k lt is s (nat_lt k i) refl)
  where
    by : (xs : List ℕ) (k : ℕ) → k < length xs → slice_index_or xs k 0 ≡ x
        → (i ≤ length xs) × ((k : ℕ) → k < i → slice_index_or xs k 0 < x) × ((k : ℕ) → i ≤ k → k < length xs
        → x < slice_index_or xs k 0)
        → (b : Bool) → nat_lt k i ≡ b → ⊥
    by xs k lt is s true less = omega (arith, s.1 k (ltb-true k i less), is)
    by xs k lt is s false more = omega (arith, s.2 k (ltb-false k i more) lt, is)

-- tests that answer the same let the same pass
same_pass : {X : Type 0} (p q : X → Bool) → ((x : X) → p x ≡ q x) → (xs : List X) → filter p xs ≡ filter q xs
same_pass p q same [] = refl
same_pass {X} p q same (x ∷ xs) = rw (same x, same_pass p q same xs) refl

module _ (some : Bool) (kept sorted : List ℕ) (same : IsPermutation kept sorted) where
  among : (id : ℕ) → contains_id sorted id ≡ contains_id kept id
  among id = sym (list_any-IsPermutation (λ k. k == id) kept sorted same)

  -- in whatever order the kept ids are, the same references stay, and the same are left out
  pub staying_by : (list : List Reference) → filter (stays some sorted) list ≡ filter (stays some kept) list
  staying_by list =
      same_pass (stays some sorted) (stays some kept) (λ r. rw (among r.track_id, among r.to) refl) list

  pub left_out_by : (list : List Reference) → filter (goes some sorted) list ≡ filter (goes some kept) list
  left_out_by list = same_pass (goes some sorted) (goes some kept) (λ r. rw (among r.track_id, among r.to) refl) list

-- a reference that stays isn't left out
stays_alone : (some : Bool) (kept : List ℕ) (r : Reference) → stays some kept r ≡ true → goes some kept r ≡ false
stays_alone some kept r = by some (contains_id kept r.track_id) (contains_id kept r.to)
  where
    by : (s a b : Bool) → (not s || (a && b)) ≡ true → (s && (a && not b)) ≡ false
    by false a b is = refl
    by true false b is = refl
    by true true false is = absurd cc
    by true true true is = refl

-- one more reference stays
pub one_stays : (some : Bool) (kept : List ℕ) (list staying more gone : List Reference) (i : ℕ) (x d : Reference)
    → more ≡ staying ++ (x ∷ []) → i < length list → x ≡ slice_index_or list i d
    → staying ++ filter (stays some kept) (drop i list) ≡ filter (stays some kept) list
    → gone ++ filter (goes some kept) (drop i list) ≡ filter (goes some kept) list → stays some kept x ≡ true
    → (more ++ filter (stays some kept) (drop (i + 1) list) ≡ filter (stays some kept) list)
    × (gone ++ filter (goes some kept) (drop (i + 1) list) ≡ filter (goes some kept) list)
one_stays some kept list staying more gone i x d pushed lt is upto upto_gone stay = (
  rw pushed (pass_more (stays some kept) list staying i x d lt is upto stay),
  pass_less (goes some kept) list gone i x d lt is upto_gone (stays_alone some kept x stay),
)
