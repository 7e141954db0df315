-- A look at a number that isn't among those that are left leaves them.
use Rattle.std.proofs.Common.{◌≡◌, ℕ, ◌<◌, ◌≤◌, List, refl, sym, ◌∙◌, ⊎_elim}
use Rattle.std.proofs.lemmas.Bool.{lt-ltb, le-ltb, le-leb, cases_lt}
use Rattle.mp4_search.specs.Search.{Left, after_look}

not_earlier : (numbers : List ℕ) (key i : ℕ) (left : Left) → i < left.low → after_look numbers key i left ≡ left
unfolding after_look
not_earlier numbers key i left h = rw (lt-ltb i left.low h) refl

not_later : (numbers : List ℕ) (key i : ℕ) (left : Left) → left.high ≤ i → after_look numbers key i left ≡ left
unfolding after_look
not_later numbers key i left h =
    ⊎_elim
    (λ (before : i < left.low). not_earlier numbers key i left before)
    (λ after. rw (le-ltb i left.low after, le-leb left.high i h) refl)
    (cases_lt i left.low)

-- what is left is after i
pub stays_after : (numbers : List ℕ) (key i : ℕ) (left same : Left) → same ≡ left → i < same.low
    → same ≡ after_look numbers key i left
stays_after numbers key i left same e h =
    let k : i < left.low = rw e at h in
    e ∙ sym (not_earlier numbers key i left k)

-- what is left is before i
pub stays_before : (numbers : List ℕ) (key i : ℕ) (left same : Left) → same ≡ left → same.high ≤ i
    → same ≡ after_look numbers key i left
stays_before numbers key i left same e h =
    let k : left.high ≤ i = rw e at h in
    e ∙ sym (not_later numbers key i left k)
