-- When the samples of a track have been shown.
use Rattle.std.proofs.Common.{◌≡◌, ◌∙◌, ℕ, ◌+◌, ◌≤◌, ◌<◌, ◌⊎◌, inl, inr, Bool, true, false, nat_lt}
use Rattle.std.proofs.Common.{None, Some, Ok, refl, sym, ap, subst, arith, max}
use Rattle.std.proofs.lemmas.Bool.{cases_lt, ltb-true, ltb-false}
use Rattle.mp4_samples.specs.declared.sample.Place.{Place}
use Rattle.mp4_media.specs.FileBoxes.{OpenedFile}
use Rattle.mp4_remux.specs.Headers.{HasNoSamples, HasShown, IsShownUntil, shown_end}
use Rattle.mp4_remux.specs.Reads.{place_in}

-- the samples up to this one have been shown at a time, and one of them not before
pub record AreShown (opened : OpenedFile) (id count end : ℕ) : Type 0 where
  pub all : (k : ℕ) → 1 ≤ k → k ≤ count → (shown : ℕ) × (HasShown opened id k shown × (shown ≤ end))
  pub one : (end ≡ 0) ⊎ ((k : ℕ) × ((1 ≤ k) × ((k ≤ count) × HasShown opened id k end)))

pub none_shown : (opened : OpenedFile) (id : ℕ) → AreShown opened id 0 0
none_shown opened id = record { all = λ k some le. absurd (omega (arith, some, le)); one = inl refl }

module _ (opened : OpenedFile) (id k end next : ℕ) (p : Place) (upto : AreShown opened id k end)
    (is : next ≡ shown_end p) (there : place_in opened id (k + 1) ≡ Ok (Some p))
  where
    this : HasShown opened id (k + 1) next
    this = record { place = p; there = there; shown = sym is }

    -- the next one is shown after the others
    later : end < next → AreShown opened id (k + 1) next
    later lt = record {
      all = λ j some le. by j some le (nat_lt k j) refl;
      one = inr (k + 1, (omega arith, (omega arith, this)));
    }
      where
        by : (j : ℕ) → 1 ≤ j → j ≤ k + 1 → (c : Bool) → nat_lt k j ≡ c
            → (shown : ℕ) × (HasShown opened id j shown × (shown ≤ next))
        by j some le true gt =
            let last : k + 1 ≡ j = omega (arith, ltb-true k j gt, le) in
            (next, (subst (λ n. HasShown opened id n next) last this, omega arith))
        by j some le false ge =
            let b = upto.all j some (ltb-false k j ge) in (b.0, (b.1.0, omega (arith, b.1.1, lt)))

    -- one before it is shown no earlier
    earlier : next ≤ end → AreShown opened id (k + 1) end
    earlier before = record { all = λ j some le. by j some le (nat_lt k j) refl; one = one upto.one }
      where
        by : (j : ℕ) → 1 ≤ j → j ≤ k + 1 → (c : Bool) → nat_lt k j ≡ c
            → (shown : ℕ) × (HasShown opened id j shown × (shown ≤ end))
        by j some le true gt =
            let last : k + 1 ≡ j = omega (arith, ltb-true k j gt, le) in
            (next, (subst (λ n. HasShown opened id n next) last this, before))
        by j some le false ge = upto.all j some (ltb-false k j ge)

        one : (end ≡ 0) ⊎ ((j : ℕ) × ((1 ≤ j) × ((j ≤ k) × HasShown opened id j end)))
            → (end ≡ 0) ⊎ ((j : ℕ) × ((1 ≤ j) × ((j ≤ k + 1) × HasShown opened id j end)))
        one (inl none) = inl none
        one (inr h) = inr (h.0, (h.1.0, (omega (arith, h.1.1.0), h.1.1.1)))

-- one more sample
pub shown_more : (opened : OpenedFile) (id k end next : ℕ) (p : Place) → AreShown opened id k end
    → next ≡ shown_end p → place_in opened id (k + 1) ≡ Ok (Some p) → AreShown opened id (k + 1) (max next end)
shown_more opened id k end next p upto is there = by (cases_lt end next)
  where
    by : (end < next) ⊎ (next ≤ end) → AreShown opened id (k + 1) (max next end)
    by (inl less) =
        let both : max next end ≡ next = omega (arith, less) in
        subst (λ n. AreShown opened id (k + 1) n) (sym both) (later opened id k end next p upto is there less)
    by (inr le) =
        let both : max next end ≡ end = omega (arith, le) in
        subst (λ n. AreShown opened id (k + 1) n) (sym both) (earlier opened id k end next p upto is there le)

-- there is no sample after these
pub shown_until : (opened : OpenedFile) (id count end : ℕ) → AreShown opened id count end
    → place_in opened id (count + 1) ≡ Ok None → IsShownUntil opened id end
shown_until opened id count end s none = record { count = count; all = s.all; one = s.one; none = inr none }

-- a track that says that it has no samples, and has none
pub nothing_shown : (opened : OpenedFile) (id : ℕ) → HasNoSamples opened id → IsShownUntil opened id 0
nothing_shown opened id none =
    let s = none_shown opened id in record { count = 0; all = s.all; one = s.one; none = inl (refl, none) }

-- ALL ARE SHOWN AT ONE TIME

-- a sample is there or isn't
there_or_not : (opened : OpenedFile) (id k : ℕ) (p : Place) → place_in opened id k ≡ Ok (Some p)
    → place_in opened id k ≡ Ok None → ⊥
there_or_not opened id k p is none = let both = sym is ∙ none in absurd cc

same_place : (opened : OpenedFile) (id k : ℕ) (p q : Place) → place_in opened id k ≡ Ok (Some p)
    → place_in opened id k ≡ Ok (Some q) → p ≡ q
same_place opened id k p q is also = let both = sym is ∙ also in cc

module _ (opened : OpenedFile) (id : ℕ) where
  -- after the last sample there is none
  no_more : (a b : ℕ) (s : IsShownUntil opened id a) (t : IsShownUntil opened id b) → s.count < t.count → ⊥
  no_more a b s t less = by s.none
    where
      by : ((s.count ≡ 0) × HasNoSamples opened id) ⊎ (place_in opened id (s.count + 1) ≡ Ok None) → ⊥
      by (inl none) =
          let first = t.all 1 (omega arith) (omega (arith, less)) in none.1.1 first.1.0.place first.1.0.there
      by (inr past) =
          let next = t.all (s.count + 1) (omega arith) (omega (arith, less)) in
          there_or_not opened id (s.count + 1) next.1.0.place next.1.0.there past

  no_later : (a b : ℕ) (s : IsShownUntil opened id a) (t : IsShownUntil opened id b) → a ≤ b
  no_later a b s t = by s.one (cases_lt t.count s.count)
    where
      by : (a ≡ 0) ⊎ ((k : ℕ) × ((1 ≤ k) × ((k ≤ s.count) × HasShown opened id k a)))
          → (t.count < s.count) ⊎ (s.count ≤ t.count) → a ≤ b
      by (inl none) which = omega (arith, none)
      by (inr one) (inl less) = absurd (no_more b a t s less)
      by (inr one) (inr many) =
          let here = one.1.1.1 in
          let there = t.all one.0 one.1.0 (omega (arith, one.1.1.0, many)) in
          let same = same_place opened id one.0 here.place there.1.0.place here.there there.1.0.there in
          omega (arith, here.shown, there.1.0.shown, ap (λ (p : Place). shown_end p) same, there.1.1)

  -- of two times at which all have been shown neither is later
  pub shown_once : (a b : ℕ) → IsShownUntil opened id a → IsShownUntil opened id b → a ≡ b
  shown_once a b s t = omega (arith, no_later a b s t, no_later b a t s)
