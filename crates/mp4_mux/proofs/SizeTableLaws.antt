-- The table of sizes lists what it has to, and stands for the sizes of the samples.
use Rattle.std.proofs.Common.{◌≡◌, ℕ, ◌==◌, ◌⊎◌, inl, inr, true, false, cond, List, [], ◌∷◌}
use Rattle.std.proofs.Common.{length, map, replicate, eqb, Some, None, refl, sym, ap, arith}
use Rattle.std.proofs.Common.{eq-eqb, ⊎_elim}
use Rattle.std.specs.List.{list_all}
use Rattle.std.proofs.lemmas.Bool.{cond_both, and_parts, eqb-true, cases_eq, lt-ltb}
use Rattle.std.proofs.lemmas.List.{length-map}
use Rattle.mp4_codec.specs.Cause.{invalid_data}
use Rattle.mp4_table.specs.Stsz.{stsz_refusal}
use Rattle.mp4_samples.specs.Tables.{sizes}
use Rattle.mp4_mux.specs.declared.sample_info.SampleInfo.{SampleInfo}
use Rattle.mp4_mux.specs.SampleTables.{one_size, listed_sizes, stsz_for}

-- as many sizes as the table has to list
pub stsz_for-is_not_refused : (ss : List SampleInfo) → stsz_refusal (stsz_for ss) ≡ None
unfolding stsz_refusal stsz_for listed_sizes
stsz_for-is_not_refused ss =
    (elim (eqb (one_size ss) 0) as (λ b.
    cond (eqb (length (cond b (map (λ s. s.size) ss) [])) (cond b (length ss) 0)) None (Some invalid_data) ≡ None) [
      | true ↦ ap (λ b. cond b None (Some invalid_data)) (eq-eqb _ _ (length-map ss (λ s. s.size)))
      | false ↦ refl
    ])

all_have : (n : ℕ) (ss : List SampleInfo) → list_all (λ o. o.size == n) ss ≡ true
    → map (λ s. s.size) ss ≡ replicate (length ss) n
all_have n [] h = refl
all_have n (s ∷ ss) h =
    let parts = and_parts (eqb s.size n) (list_all (λ o. o.size == n) ss) h in
    rw (eqb-true s.size n parts.0, all_have n ss parts.1) refl

-- one size is 0, or that of all
one_size_is : (ss : List SampleInfo) → (one_size ss ≡ 0) ⊎ (map (λ s. s.size) ss ≡ replicate (length ss) (one_size ss))
unfolding one_size
one_size_is [] = inl refl
one_size_is (s ∷ ss) =
    cond_both (list_all (λ o. o.size == s.size) ss) s.size 0
    (λ n. (n ≡ 0) ⊎ (s.size ∷ map (λ o. o.size) ss ≡ n ∷ replicate (length ss) n))
    (λ e. inr (ap (λ rest. s.size ∷ rest) (all_have s.size ss e))) (λ _. inl refl)

-- the sizes of the samples
pub sizes-stsz_for : (ss : List SampleInfo) → sizes (stsz_for ss) (length ss) ≡ map (λ s. s.size) ss
unfolding sizes stsz_for listed_sizes
sizes-stsz_for ss =
    ⊎_elim
    (λ (none : one_size ss ≡ 0). rw none refl)
    (λ (some : one_size ss ≡ 0 → ⊥).
    rw (lt-ltb 0 (one_size ss) (omega (arith, some))) (⊎_elim (λ none. absurd (some none)) sym (one_size_is ss)))
    (cases_eq (one_size ss) 0)
