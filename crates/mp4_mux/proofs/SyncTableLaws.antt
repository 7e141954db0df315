-- The table of sync samples: its numbers rise, and say of each sample whether it is one.
use Rattle.std.proofs.Common.{◌≡◌, ℕ, zero, suc, ◌+◌, ◌-◌, ◌<◌, ◌≤◌, ◌==◌, ◌||◌, true, false, cond, List, []}
use Rattle.std.proofs.Common.{◌∷◌, length, get_or, eqb, ap, ◌∙◌, arith, eq-eqb}
use Rattle.std.specs.List.{All, AllPairs, list_any}
use Rattle.std.specs.List.Sorted.{IsStrictlyIncreasing}
use Rattle.std.proofs.lemmas.Bool.{cond_both, ne_eqb}
use Rattle.std.proofs.lemmas.List.Elements.{All-nil, All-cons, All-weaker}
use Rattle.std.proofs.lemmas.List.Folds.{list_any_none}
use Rattle.std.proofs.lemmas.List.Kept.{AllPairs-cons}
use Rattle.mp4_samples.specs.Tables.{sync_numbers, is_sync_at}
use Rattle.mp4_mux.specs.declared.sample_info.SampleInfo.{SampleInfo}
use Rattle.mp4_mux.specs.SampleTables.{sync_numbers_from, stss_for}

-- the numbers are those of these samples
within : (k : ℕ) (ss : List SampleInfo) → All (λ n. (k ≤ n) × (n < k + length ss)) (sync_numbers_from k ss)
unfolding sync_numbers_from
within k [] = All-nil (λ n. (k ≤ n) × (n < k + 0))
within k (s ∷ ss) =
    let Within : ℕ → Type 0 = λ n. (k ≤ n) × (n < k + suc (length ss)) in
    let rest = sync_numbers_from (k + 1) ss in
    let later : All Within rest =
    All-weaker (λ n. (k + 1 ≤ n) × (n < k + 1 + length ss)) Within (λ n p. (omega (arith, p.0), omega (arith, p.1)))
    rest (within (k + 1) ss) in
    cond_both s.is_sync (k ∷ rest) rest (All Within)
    (λ _. All-cons Within k rest (omega arith, omega arith) later) (λ _. later)

rise : (k : ℕ) (ss : List SampleInfo) → AllPairs (λ a b. a < b) (sync_numbers_from k ss)
unfolding sync_numbers_from
rise k [] = λ i j d p q. absurd (omega arith)
rise k (s ∷ ss) =
    let rest = sync_numbers_from (k + 1) ss in
    cond_both s.is_sync (k ∷ rest) rest (AllPairs (λ a b. a < b))
    (λ _. AllPairs-cons (λ a b. a < b) k rest
    (All-weaker (λ n. (k + 1 ≤ n) × (n < k + 1 + length ss)) (λ n. k < n) (λ n p. omega (arith, p.0)) rest
    (within (k + 1) ss)) (rise (k + 1) ss))
    (λ _. rise (k + 1) ss)

-- no sample before the first has a number
none_before : (m k : ℕ) (ss : List SampleInfo) → m < k → list_any (λ n. n == m) (sync_numbers_from k ss) ≡ false
none_before m k ss h =
    list_any_none (λ n. n == m) (sync_numbers_from k ss)
    (All-weaker (λ n. (k ≤ n) × (n < k + length ss)) (λ n. eqb n m ≡ false)
    (λ n p. ne_eqb n m (λ e. omega (arith, p.0, e))) (sync_numbers_from k ss) (within k ss))

-- sample j after the first, which has number k
marked : (k j m : ℕ) (ss : List SampleInfo) (d : SampleInfo) → k + j ≡ m → j < length ss
    → list_any (λ n. n == m) (sync_numbers_from k ss) ≡ (get_or ss j d).is_sync
unfolding sync_numbers_from
marked k j m [] d e h = absurd (omega arith)
marked k zero m (s ∷ ss) d e h =
    let rest = sync_numbers_from (k + 1) ss in
    (elim s.is_sync as (λ b. list_any (λ n. n == m) (cond b (k ∷ rest) rest) ≡ b) [
      | true ↦ ap (λ b. b || list_any (λ n. n == m) rest) (eq-eqb k m (omega (arith, e)))
      | false ↦ none_before m (k + 1) ss (omega (arith, e))
    ])
marked k (suc j) m (s ∷ ss) d e h =
    let rest = sync_numbers_from (k + 1) ss in
    let later = marked (k + 1) j m ss d (omega (arith, e)) (omega arith) in
    cond_both s.is_sync (k ∷ rest) rest (λ ns. list_any (λ n. n == m) ns ≡ (get_or ss j d).is_sync)
    (λ _. ap (λ b. b || list_any (λ n. n == m) rest) (ne_eqb k m (λ same. omega (arith, e, same))) ∙ later)
    (λ _. later)

pub sync_numbers_rise : (ss : List SampleInfo) → IsStrictlyIncreasing (sync_numbers (stss_for ss))
unfolding stss_for
sync_numbers_rise [] = λ k h. absurd (omega arith)
sync_numbers_rise (s ∷ ss) = λ k h. rise 1 (s ∷ ss) k (k + 1) 0 (omega arith) h

pub sync_numbers_within : (ss : List SampleInfo)
    → All (λ n. (1 ≤ n) × (n ≤ length ss)) (sync_numbers (stss_for ss))
unfolding stss_for
sync_numbers_within [] = All-nil (λ n. (1 ≤ n) × (n ≤ 0))
sync_numbers_within (s ∷ ss) =
    All-weaker (λ n. (1 ≤ n) × (n < 1 + suc (length ss))) (λ n. (1 ≤ n) × (n ≤ suc (length ss)))
    (λ n p. (p.0, omega (arith, p.1))) (sync_numbers_from 1 (s ∷ ss)) (within 1 (s ∷ ss))

-- sample k is a sync sample where its mark says so
pub is_sync_at-stss_for : (ss : List SampleInfo) (k : ℕ) (d : SampleInfo) → 1 ≤ k → k ≤ length ss
    → is_sync_at (stss_for ss) k ≡ (get_or ss (k - 1) d).is_sync
unfolding stss_for
is_sync_at-stss_for [] k d first last = absurd (omega arith)
is_sync_at-stss_for (s ∷ ss) k d first last = marked 1 (k - 1) k (s ∷ ss) d (omega arith) (omega arith)
