-- Samples that are written one after the other.
use Rattle.std.proofs.Common.{◌≡◌, ℕ, zero, suc, ◌+◌, Bool, true, false, not, List, [], ◌++◌}
use Rattle.std.proofs.Common.{Option, Some, None, Result, Ok, refl, sym, ap, ◌∙◌, append_assoc, add-one, arith}
use Rattle.std.proofs.lemmas.Bool.{eqb-true}
use Rattle.std.proofs.lemmas.List.{append-nil}
use Rattle.std.specs.Prelude.{◌==◌, if◌then◌else◌}
use Rattle.std.specs.Io.KnownBytes.{Appends}
use Rattle.mp4_codec.specs.Cause.{Cause}
use Rattle.mp4_extract.specs.declared.form.SampleForm.{SampleForm}
use Rattle.mp4_extract.specs.Extracting.{AreSamplesIn, AreWritten, HasSample, IsWritten, Reading}

-- nothing is added
appends-none : (known : Option (List ℕ)) → Appends known known []
appends-none None = tt
appends-none (Some xs) = sym (append-nil xs)

-- some bytes, and then others
appends-then : (old mid new : Option (List ℕ)) (xs ys : List ℕ) → Appends old mid xs → Appends mid new ys
    → Appends old new (xs ++ ys)
appends-then None mid new xs ys first second = tt
appends-then (Some a) None new xs ys first second = absurd first
appends-then (Some a) (Some b) None xs ys first second = absurd second
appends-then (Some a) (Some b) (Some c) xs ys first second =
    second ∙ ap (λ (z : List ℕ). z ++ ys) first ∙ append_assoc a xs ys

module _ (form : SampleForm) (readings : ℕ → Reading) (k : ℕ) where
  pub none_written : (old : Option (List ℕ)) → AreWritten form readings k old old 0
  none_written old = ([], refl, appends-none old)

  -- the bytes of samples, and of those after them
  samples_join : (n m : ℕ) (xs ys : List ℕ) → AreSamplesIn form readings k n xs
      → AreSamplesIn form readings (k + n) m ys → AreSamplesIn form readings k (n + m) (xs ++ ys)
  samples_join n zero xs ys first none =
      let same : n + 0 ≡ n = omega arith in
      rw (same, none, append-nil xs) first
  samples_join n (suc m) xs ys first second =
      let before = second.0 in
      let next : n + suc m ≡ suc (n + m) = omega arith in
      let number : k + n + m ≡ k + (n + m) = omega arith in
      rw next (
        xs ++ before,
        second.1,
        samples_join n m xs before first second.2,
        rw number at second.3,
        ap (λ (z : List ℕ). xs ++ z) second.4 ∙ sym (append_assoc xs before second.1),
      )

  pub others_more : (old mid new : Option (List ℕ)) (n m : ℕ) → AreWritten form readings k old mid n
      → AreWritten form readings (k + n) mid new m → AreWritten form readings k old new (n + m)
  others_more old mid new n m first second = (
    first.0 ++ second.0,
    samples_join n m first.0 second.0 first.1 second.1,
    appends-then old mid new first.0 second.0 first.2 second.2,
  )

  pub one_more : (old mid new : Option (List ℕ)) (n : ℕ) → AreWritten form readings k old mid n
      → HasSample form (readings (k + n)) mid new → AreWritten form readings k old new (n + 1)
  one_more old mid new n before last = rw add-one (
    before.0 ++ last.0,
    (before.0, last.0, before.1, last.1, refl),
    appends-then old mid new before.0 last.0 before.2 last.2,
  )

not_false : (b : Bool) → not b ≡ false → b ≡ true
not_false true e = refl
not_false false e = sym e

-- so many are none
pub none_counted : (counted : Result ℕ Cause) (count : ℕ) (has_some : Bool) → counted ≡ Ok count
    → has_some ≡ not (count == 0) → has_some ≡ false → counted ≡ Ok 0
none_counted counted count has_some is some none =
    is ∙ ap (λ n. let r : Result ℕ Cause = Ok n in r) (eqb-true count 0 (not_false (count == 0) (sym some ∙ none)))

-- samples more were written
pub samples_added : (form : SampleForm) (readings : ℕ → Reading) (k n number m : ℕ) (old mid new : Option (List ℕ))
    → number ≡ k + n → AreWritten form readings k old mid n → AreWritten form readings number mid new m
    → AreWritten form readings k old new (n + m)
samples_added form readings k n number m old mid new is first second =
    others_more form readings k old mid new n m first (rw is at second)

-- a sample was written after none, or there is none
pub first_written : (form : SampleForm) (readings : ℕ → Reading) (k n m : ℕ) (old mid new : Option (List ℕ))
    (found : Bool) → n ≡ 0 → m ≡ (if found then 1 else 0) → AreWritten form readings k old mid n
    → IsWritten form (readings k) mid new found → AreWritten form readings k old new m
first_written form readings k n m old mid new true none one before last =
    let same : k + 0 ≡ k = omega arith in
    rw one (one_more form readings k old mid new 0 (rw none at before) (rw same last))
first_written form readings k n m old mid new false none is before last = rw (is, last.1) (rw none at before)
