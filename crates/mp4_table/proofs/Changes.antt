-- Runs are at least as many as the changes of what they expand to.
use Rattle.std.proofs.Common.{◌≡◌, ℕ, zero, suc, ◌+◌, ◌≤◌, Bool, true, false, cond, List, [], ◌∷◌, ◌++◌, length}
use Rattle.std.proofs.Common.{replicate, refl, ap, ◌∙◌, arith}
use Rattle.std.proofs.lemmas.List.Concat.{flat_map-cons}
use Rattle.mp4_table.specs.Runs.{expand, changes_after, changes}

-- a test adds one change at most
at_most_one : (b : Bool) → cond b 0 1 ≤ 1
at_most_one true = omega arith
at_most_one false = omega arith

module _ {A : Type 0} (same : A → A → Bool) (reflexive : (x : A) → same x x ≡ true) where
  -- equal values change nothing
  changes_after-first_run : (n : ℕ) (v : A) (xs : List A)
      → changes_after same v (replicate n v ++ xs) ≡ changes_after same v xs
  unfolding changes_after
  changes_after-first_run zero v xs = refl
  changes_after-first_run (suc n) v xs =
      ap (λ (b : Bool). cond b 0 1 + changes_after same v (replicate n v ++ xs)) (reflexive v)
      ∙ omega (arith, changes_after-first_run n v xs)

  changes_after-le-changes : (v : A) (xs : List A) → changes_after same v xs ≤ changes same xs
  unfolding changes_after changes
  changes_after-le-changes v [] = omega arith
  changes_after-le-changes v (x ∷ xs) = omega (arith, at_most_one (same v x))

  -- a run before other values adds one change at most
  changes-first_run : (n : ℕ) (v : A) (xs : List A) → changes same (replicate n v ++ xs) ≤ suc (changes same xs)
  unfolding changes
  changes-first_run zero v xs = omega arith
  changes-first_run (suc n) v xs = omega (arith, changes_after-first_run n v xs, changes_after-le-changes v xs)

  pub changes-expand : {R : Type 0} (count : R → ℕ) (value : R → A) (runs : List R)
      → changes same (expand count value runs) ≤ length runs
  unfolding expand changes
  changes-expand count value [] = omega arith
  changes-expand {R} count value (r ∷ runs) =
      rw (flat_map-cons (λ (r : R). replicate (count r) (value r)) r runs)
      (omega (arith, changes-first_run (count r) (value r) (expand count value runs), changes-expand count value runs))

  changes_after-nothing : (n : ℕ) (v : A) → changes_after same v (replicate n v) ≡ 0
  unfolding changes_after
  changes_after-nothing zero v = refl
  changes_after-nothing (suc n) v = ap (λ (b : Bool). cond b 0 1 + changes_after same v (replicate n v)) (reflexive v)
      ∙ omega (arith, changes_after-nothing n v)

  -- so does a run after them
  changes_after-last_run : (x : A) (xs : List A) (n : ℕ) (v : A)
      → changes_after same x (xs ++ replicate n v) ≤ changes_after same x xs + 1
  unfolding changes_after
  changes_after-last_run x [] zero v = omega arith
  changes_after-last_run x [] (suc n) v = omega (arith, at_most_one (same x v), changes_after-nothing n v)
  changes_after-last_run x (y ∷ ys) n v = omega (arith, changes_after-last_run y ys n v)

  pub changes-last_run : (xs : List A) (n : ℕ) (v : A) → changes same (xs ++ replicate n v) ≤ changes same xs + 1
  unfolding changes
  changes-last_run [] zero v = omega arith
  changes-last_run [] (suc n) v = omega (arith, changes_after-nothing n v)
  changes-last_run (x ∷ xs) n v = omega (arith, changes_after-last_run x xs n v)
