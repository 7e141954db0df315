-- Places and times further on.
use Rattle.std.proofs.Common.{◌≡◌, ℕ, ◌+◌, ◌*◌, ◌^◌, ◌<◌, ◌≤◌, List, [], ◌∷◌, ◌++◌, length, Option, Some, None, refl}
use Rattle.std.proofs.Common.{ap, ◌∙◌, arith, ⊎_elim}
use Rattle.std.proofs.lemmas.Bool.{cases_lt, lt-ltb, le-ltb}
use Rattle.std.proofs.lemmas.List.{length_push, get_or_append_left, get_or_push}
use Rattle.mp4_fragments.specs.Numbers.{plus, sum_of_first}
use Rattle.mp4_fragments.specs.RunSamples.{at_run_sample}
use Rattle.mp4_fragments.specs.Checkpoints.{AreCheckpoints}
use Rattle.mp4_moof.specs.declared.trun.TrunBox.{TrunBox}
use Rattle.mp4_fragments.specs.declared.defaults.SampleDefaults.{SampleDefaults}
use Rattle.mp4_fragments.specs.declared.run_samples.RunStart.{RunStart}

-- in two steps is in one
pub plus-plus : (p : Option ℕ) (a b : ℕ) → plus (plus p a) b ≡ plus p (a + b)
plus-plus None a b = refl
plus-plus (Some m) a b =
    ⊎_elim
    (λ (h : m + a < 2 ^ 64). let e : m + a + b ≡ m + (a + b) = omega arith in rw (lt-ltb _ _ h) (rw e refl))
    (λ (h : 2 ^ 64 ≤ m + a). let h2 : 2 ^ 64 ≤ m + (a + b) = omega arith in rw (le-ltb _ _ h, le-ltb _ _ h2) refl)
    (cases_lt (m + a) (2 ^ 64))

-- from one sample to a later one
pub at_run_sample-on : (run : TrunBox) (defaults : SampleDefaults) (first at : RunStart) (from to size duration : ℕ) →
    sum_of_first from run.sample_sizes defaults.size + size ≡ sum_of_first to run.sample_sizes defaults.size →
    sum_of_first from run.sample_durations defaults.duration + duration
    ≡ sum_of_first to run.sample_durations defaults.duration →
    at ≡ at_run_sample run defaults first from → record {
      place = plus at.place size;
      time = plus at.time duration;
    } ≡ at_run_sample run defaults first to
unfolding at_run_sample
at_run_sample-on run defaults first at from to size duration e1 e2 e =
    let on : RunStart → RunStart = λ a. record { place = plus a.place size; time = plus a.time duration } in
    let reached : ℕ → ℕ → RunStart = λ m n. record { place = plus first.place m; time = plus first.time n } in
    let S = sum_of_first from run.sample_sizes defaults.size in
    let D = sum_of_first from run.sample_durations defaults.duration in
    ap on e
    ∙ ap (λ p. record { place = p; time = plus (plus first.time D) duration }) (plus-plus first.place S size)
    ∙ ap (λ p. record { place = plus first.place (S + size); time = p }) (plus-plus first.time D duration)
    ∙ ap (λ m. reached m (D + duration)) e1
    ∙ ap (λ n. reached (sum_of_first to run.sample_sizes defaults.size) n) e2

pub AreCheckpoints-none : (run : TrunBox) (defaults : SampleDefaults) (first : RunStart)
    (checks : List RunStart) → checks ≡ [] → AreCheckpoints run defaults first checks
AreCheckpoints-none run defaults first checks e = rw e (record { each = λ q d h. absurd (omega (arith, h)) })

pub AreCheckpoints-push : (run : TrunBox) (defaults : SampleDefaults) (first at : RunStart)
    (checks more : List RunStart) (q : ℕ) → length checks ≡ q → more ≡ checks ++ at ∷ []
    → at ≡ at_run_sample run defaults first (64 * (q + 1)) →
    AreCheckpoints run defaults first checks → AreCheckpoints run defaults first more
AreCheckpoints-push run defaults first at checks more q e1 e2 e s = rw e2 (record {
  each = λ k d h.
      ⊎_elim
      (λ (early : k < length checks). get_or_append_left checks (at ∷ []) d k early ∙ s.each k d early)
      (λ (late : length checks ≤ k).
      let same : q ≡ k = omega (arith, h, length_push checks at) in
      get_or_push checks at d k (omega (arith, e1, same)) ∙ e ∙ ap (λ n. at_run_sample run defaults first (64 *
      (n + 1))) same)
      (cases_lt k (length checks));
})
