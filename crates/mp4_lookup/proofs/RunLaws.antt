-- What is in the runs written out: how many members, which one at a place, and their sum up to there.
use Rattle.std.proofs.Common.{◌≡◌, ℕ, zero, suc, ◌+◌, ◌*◌, ◌<◌, ◌≤◌, List, [], ◌∷◌, ◌++◌, length, get_or, take}
use Rattle.std.proofs.Common.{replicate, sum, refl, sym, ap, ◌∙◌, arith, zero-add, length-append}
use Rattle.std.proofs.Common.{append_assoc}
use Rattle.std.specs.List.{sum_by, flat_map}
use Rattle.std.proofs.Math.Seq.{take-append-add}
use Rattle.std.proofs.lemmas.List.{length-replicate, take-append-le, take-replicate, get_or-replicate}
use Rattle.std.proofs.lemmas.List.Sums.{sum_by-cons, sum_by-append, sum_by_more_le}
use Rattle.std.proofs.lemmas.List.Folds.{sum_by-replicate}
use Rattle.std.proofs.lemmas.List.Concat.{get_or-flat_map}
use Rattle.mp4_table.specs.Runs.{expand}

pub length-expand : {X A : Type 0} (count : X → ℕ) (value : X → A) → (runs : List X)
    → length (expand count value runs) ≡ sum_by count runs
unfolding expand
length-expand count value [] = refl
length-expand count value (r ∷ runs) =
    simp (length-append, length-replicate) (ap (λ n. count r + n) (length-expand count value runs)
    ∙ sym (sum_by-cons count r runs))

pub sum-expand : {X : Type 0} (count value : X → ℕ) → (runs : List X)
    → sum (expand count value runs) ≡ sum_by (λ r. count r * value r) runs
unfolding expand
sum-expand count value [] = refl
sum-expand {X} count value (r ∷ runs) =
    sum_by-append (λ x. x) (replicate (count r) (value r)) (flat_map (λ r. replicate (count r) (value r)) runs)
    ∙ omega (
      arith,
      sum_by-replicate (λ x. x) (count r) (value r),
      sum-expand count value runs,
      sum_by-cons (λ (s : X). count s * value s) r runs,
    )

-- the first members of all: those of the runs before run i, and j of run i
pub take-expand : {X A : Type 0} (count : X → ℕ) (value : X → A) → (runs : List X) (i j : ℕ) (e : X) → i < length runs
    → j ≤ count (get_or runs i e)
    → take (sum_by count (take i runs) + j) (expand count value runs)
    ≡ expand count value (take i runs) ++ replicate j (value (get_or runs i e))
unfolding expand
take-expand count value [] i j e h k = absurd (omega arith)
take-expand count value (r ∷ runs) zero j e h k =
    let rest = flat_map (λ r. replicate (count r) (value r)) runs in
    let fits : j ≤ length (replicate (count r) (value r)) = rw (length-replicate (count r) (value r)) k in
    rw (zero-add j) (take-append-le j (replicate (count r) (value r)) rest fits
    ∙ take-replicate j (count r) (value r) k)
take-expand count value (r ∷ runs) (suc i) j e h k =
    let run = replicate (count r) (value r) in
    let rest = flat_map (λ r. replicate (count r) (value r)) runs in
    let before = sum_by count (take i runs) in
    let at : sum_by count (r ∷ take i runs) + j ≡ length run + (before + j) =
    omega (arith, sum_by-cons count r (take i runs), length-replicate (count r) (value r)) in
    ap (λ n. take n (run ++ rest)) at ∙ take-append-add run rest (before + j)
    ∙ ap (λ xs. run ++ xs) (take-expand count value runs i j e (omega arith) k)
    ∙ sym (append_assoc run (flat_map (λ r. replicate (count r) (value r)) (take i runs))
    (replicate j (value (get_or runs i e))))

-- the sum of the first members
pub sum-take-expand : {X : Type 0} (count value : X → ℕ) → (runs : List X) (i j : ℕ) (e : X) → i < length runs
    → j ≤ count (get_or runs i e)
    → sum (take (sum_by count (take i runs) + j) (expand count value runs))
    ≡ sum_by (λ r. count r * value r) (take i runs) + j * value (get_or runs i e)
sum-take-expand count value runs i j e h k =
    let v = value (get_or runs i e) in
    ap sum (take-expand count value runs i j e h k)
    ∙ sum_by-append (λ x. x) (expand count value (take i runs)) (replicate j v)
    ∙ omega (arith, sum-expand count value (take i runs), sum_by-replicate (λ x. x) j v)

-- member j of run i
pub get_or-expand : {X A : Type 0} (count : X → ℕ) (value : X → A) → (runs : List X) (i j : ℕ) (e : X) (d : A)
    → i < length runs → j < count (get_or runs i e)
    → get_or (expand count value runs) (sum_by count (take i runs) + j) d ≡ value (get_or runs i e)
unfolding expand
get_or-expand {X} count value runs i j e d h k =
    let run = λ (r : X). replicate (count r) (value r) in
    let fits : j < length (run (get_or runs i e)) =
    rw (length-replicate (count (get_or runs i e)) (value (get_or runs i e))) k in
    ap (λ n. get_or (flat_map run runs) (n + j) d) (sym (length-expand count value (take i runs)))
    ∙ get_or-flat_map run runs i j e d h fits
    ∙ get_or-replicate (count (get_or runs i e)) j (value (get_or runs i e)) d k

-- a run ends within the whole
pub end_of_run : {X : Type 0} (count : X → ℕ) (runs : List X) (i : ℕ) (d : X) → i < length runs
    → sum_by count (take i runs) + count (get_or runs i d) ≤ sum_by count runs
end_of_run count runs i d h = sum_by_more_le count runs i d h
