-- Neighbours that are the same, as runs: what the runs stand for, and how many there are.
use Rattle.std.proofs.Common.{◌≡◌, ℕ, suc, ◌+◌, Bool, true, false, cond, List, [], ◌∷◌, ◌++◌, length, map, replicate}
use Rattle.std.proofs.Common.{refl, ap, ◌∙◌, append_assoc, arith}
use Rattle.std.proofs.lemmas.Bool.{cond_both}
use Rattle.std.proofs.lemmas.List.{replicate_more}
use Rattle.std.proofs.lemmas.List.Concat.{flat_map-cons}
use Rattle.mp4_table.specs.Runs.{expand, changes_after, changes}
use Rattle.mp4_mux.specs.SampleTables.{runs_from, runs_of}

-- as many runs as members that are the first or differ from the one before
pub length-runs_from : {X R : Type 0} (same : X → X → Bool) (run : ℕ → X → R) (n : ℕ) (x : X) (ys : List X)
    → length (runs_from same run n x ys) ≡ suc (changes_after same x ys)
unfolding runs_from changes_after
length-runs_from same run n x [] = refl
length-runs_from same run n x (y ∷ ys) =
    (elim (same x y) as (λ b. length (cond b (runs_from same run (n + 1) y ys) (run n x ∷ runs_from same run 1 y ys))
    ≡ suc (cond b 0 1 + changes_after same y ys)) [
      | true ↦ omega (arith, length-runs_from same run (n + 1) y ys)
      | false ↦ omega (arith, length-runs_from same run 1 y ys)
    ])

pub length-runs_of : {X R : Type 0} (same : X → X → Bool) (run : ℕ → X → R) (xs : List X)
    → length (runs_of same run xs) ≡ changes same xs
unfolding runs_of changes
length-runs_of same run [] = refl
length-runs_of same run (x ∷ xs) = omega (arith, length-runs_from same run 1 x xs)

-- changes of what f says of the members
changes_after-map : {X A : Type 0} (same : A → A → Bool) (f : X → A) (x : X) (ys : List X)
    → changes_after same (f x) (map f ys) ≡ changes_after (λ a b. same (f a) (f b)) x ys
unfolding changes_after
changes_after-map same f x [] = refl
changes_after-map same f x (y ∷ ys) = ap (λ n. cond (same (f x) (f y)) 0 1 + n) (changes_after-map same f y ys)

pub changes-map : {X A : Type 0} (same : A → A → Bool) (f : X → A) (xs : List X)
    → changes same (map f xs) ≡ changes (λ a b. same (f a) (f b)) xs
unfolding changes
changes-map same f [] = refl
changes-map same f (x ∷ xs) = ap (λ n. 1 + n) (changes_after-map same f x xs)

-- a run has a count and a value: the value that f says of each of its members
pub record IsRun {X R A : Type 0} (same : X → X → Bool) (run : ℕ → X → R) (count : R → ℕ) (value : R → A) (f : X → A)
    : Type 0 where
  pub counted : (n : ℕ) (x : X) → count (run n x) ≡ n
  pub valued : (n : ℕ) (x : X) → value (run n x) ≡ f x
  pub alike : (x y : X) → same x y ≡ true → f x ≡ f y

module _ {X R A : Type 0} (same : X → X → Bool) (run : ℕ → X → R) (count : R → ℕ) (value : R → A) (f : X → A)
    (is_run : IsRun same run count value f) where
  expand-none : expand count value [] ≡ []
  unfolding expand
  expand-none = refl

  expand-one : (n : ℕ) (x : X) (rest : List R)
      → expand count value (run n x ∷ rest) ≡ replicate n (f x) ++ expand count value rest
  unfolding expand
  expand-one n x rest =
      flat_map-cons (λ r. replicate (count r) (value r)) (run n x) rest
      ∙ rw (is_run.counted n x, is_run.valued n x) refl

  expand-runs_from : (n : ℕ) (x : X) (ys : List X)
      → expand count value (runs_from same run n x ys) ≡ replicate n (f x) ++ map f ys
  unfolding runs_from
  expand-runs_from n x [] = expand-one n x [] ∙ ap (λ rest. replicate n (f x) ++ rest) expand-none
  expand-runs_from n x (y ∷ ys) =
      cond_both (same x y) (runs_from same run (n + 1) y ys) (run n x ∷ runs_from same run 1 y ys)
      (λ runs. expand count value runs ≡ replicate n (f x) ++ (f y ∷ map f ys))
      (λ e. expand-runs_from (n + 1) y ys
      ∙ rw (is_run.alike x y e, ← replicate_more n (f y)) (append_assoc (replicate n (f y)) (f y ∷ []) (map f ys)))
      (λ _. expand-one n x (runs_from same run 1 y ys)
      ∙ ap (λ rest. replicate n (f x) ++ rest) (expand-runs_from 1 y ys))

  -- the runs stand for what f says of each member
  pub expand-runs_of : (xs : List X) → expand count value (runs_of same run xs) ≡ map f xs
  unfolding runs_of
  expand-runs_of [] = expand-none
  expand-runs_of (x ∷ xs) = expand-runs_from 1 x xs
