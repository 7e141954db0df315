-- One more sum at the end of running sums, and how large sums of durations are.
use Rattle.std.proofs.Common.{◌≡◌, ℕ, ◌+◌, ◌-◌, ◌*◌, ◌^◌, ◌<◌, ◌≤◌, suc, List, [], ◌∷◌, ◌++◌, length}
use Rattle.std.proofs.Common.{get_or, take, ap, ◌∙◌, arith, ⊎_elim}
use Rattle.std.specs.Prelude.{slice_index}
use Rattle.std.specs.List.{sum_by, All}
use Rattle.std.proofs.lemmas.Bool.{cases_lt}
use Rattle.std.proofs.lemmas.Nat.{mul-le}
use Rattle.std.proofs.lemmas.List.{length-take, length_push, take-take, get_or_append_left, get_or_push}
use Rattle.std.proofs.lemmas.List.Elements.{All-take}
use Rattle.std.proofs.lemmas.List.Sums.{sum_by-cons}
use Rattle.mp4_table.specs.declared.stts.SttsEntry.{SttsEntry}
use Rattle.mp4_search.specs.Search.{IsLastAtMost}
use Rattle.mp4_search.specs.Sums.{RunningSums}
use Rattle.mp4_search.proofs.SumLaws.{before_found}
use Rattle.mp4_lookup.specs.Sums.{TimesBefore}

pub RunningSums-push : {X : Type 0} (kept : ℕ → ℕ) (f : X → ℕ) (xs : List X) (sums : List ℕ) (i total : ℕ)
    → i < length xs → RunningSums kept f (take i xs) sums → total ≡ kept (sum_by f (take i xs))
    → RunningSums kept f (take (i + 1) xs) (sums ++ total ∷ [])
RunningSums-push kept f xs sums i total h s e =
    let so_many : length sums ≡ i = omega (arith, s.count, length-take i xs) in
    record {
      count = omega (arith, length_push sums total, so_many, length-take (i + 1) xs);
      each = λ k q.
          let small : k ≤ i = omega (arith, length-take (i + 1) xs) in
          rw (take-take k (i + 1) xs (omega arith))
          (⊎_elim
          (λ (before : k < i).
          get_or_append_left sums (total ∷ []) 0 k (omega (arith, so_many))
          ∙ s.each k (omega (arith, length-take i xs))
          ∙ ap (λ ys. kept (sum_by f ys)) (take-take k i xs (omega arith)))
          (λ (at : i ≤ k).
          let same : i ≡ k = omega arith in
          rw (← same) (get_or_push sums total 0 i so_many ∙ e))
          (cases_lt k i));
    }

-- so many ticks as the samples of these runs last are at most so many samples times the longest duration of 32 bits
ticks_of : (runs : List SttsEntry) → All (λ r. r.sample_delta < 2 ^ 32) runs
    → sum_by (λ r. r.sample_count * r.sample_delta) runs ≤ sum_by (λ r. r.sample_count) runs * (2 ^ 32 - 1)
ticks_of [] small = omega arith
ticks_of (r ∷ runs) small =
    let one : r.sample_count * r.sample_delta ≤ r.sample_count * (2 ^ 32 - 1) =
    mul-le _ _ _ _ (omega arith) (omega (arith, small 0 r (omega arith))) in
    let rest = ticks_of runs (λ k d h. small (suc k) d (omega arith)) in
    omega (
      arith,
      one,
      rest,
      sum_by-cons (λ (r : SttsEntry). r.sample_count * r.sample_delta) r runs,
      sum_by-cons (λ (r : SttsEntry). r.sample_count) r runs,
    )

-- the same of the runs before run i
pub ticks_before : (runs : List SttsEntry) (i : ℕ) → All (λ r. r.sample_delta < 2 ^ 32) runs
    → sum_by (λ r. r.sample_count * r.sample_delta) (take i runs)
    ≤ sum_by (λ r. r.sample_count) (take i runs) * (2 ^ 32 - 1)
ticks_before runs i small =
    ticks_of (take i runs) (All-take (λ (r : SttsEntry). r.sample_delta < 2 ^ 32) i runs small)

-- the run that a search for sample k found: how many samples come before it, and when it begins, which is below 2 ^ 64,
-- and so was kept as it is
pub run_found : (runs : List SttsEntry) (samples ticks : List ℕ) (k i number : ℕ) → TimesBefore runs samples ticks
    → k < 2 ^ 32 → IsLastAtMost samples (k - 1) i → number ≡ slice_index samples i
    → (i < length runs) × (number ≡ sum_by (λ r. r.sample_count) (take i runs)) × (number ≤ k - 1)
    × (get_or ticks i 0 ≡ sum_by (λ r. r.sample_count * r.sample_delta) (take i runs))
    × (get_or ticks i 0 ≤ number * (2 ^ 32 - 1))
run_found runs samples ticks k i number sums short at is =
    let inside : k - 1 < 2 ^ 32 - 1 = omega (arith, short) in
    let before = before_found (λ (r : SttsEntry). r.sample_count) runs samples (k - 1) i sums.counts inside at in
    let most = ticks_before runs i sums.small in
    let begin : get_or ticks i 0 ≡ sum_by (λ r. r.sample_count * r.sample_delta) (take i runs) =
    omega (arith, sums.times.each i before.0, most, before.2, short) in (
      before.0,
      is ∙ before.1,
      omega (arith, is, before.1, before.2),
      begin,
      omega (arith, begin, most, is, before.1),
    )

-- a sample that begins in run i begins before 64 bits end
pub start_fits : (before begin k delta : ℕ) → begin ≤ before * (2 ^ 32 - 1) → delta < 2 ^ 32 → before ≤ k - 1
    → k < 2 ^ 32
    → begin + (k - 1 - before) * delta < 2 ^ 64
start_fits before begin k delta ticks small reached last =
    let most : (k - 1 - before) * delta ≤ (k - 1 - before) * (2 ^ 32 - 1) =
    mul-le (k - 1 - before) delta (k - 1 - before) (2 ^ 32 - 1) (omega arith) (omega arith) in
    omega (arith, most)
