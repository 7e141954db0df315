-- When runs begin, and the last sample that is decoded at or before a time.
use Rattle.std.proofs.Common.{◌≡◌, ℕ, zero, suc, ◌+◌, ◌-◌, ◌^◌, ◌<◌, ◌≤◌, ◌⊎◌, inl, inr, min, Bool, true, false}
use Rattle.std.proofs.Common.{List, [], ◌∷◌, ◌++◌, length, take, get_or, Option, Some, None}
use Rattle.std.proofs.Common.{refl, sym, ap, ◌∙◌, arith, ⊎_elim}
use Rattle.std.specs.Prelude.{nat_le, nat_lt, slice_get, slice_index, IfSome, MatchOption, if◌then◌else◌}
use Rattle.std.specs.List.{sum_by}
use Rattle.std.specs.Option.{option_and_then}
use Rattle.std.proofs.lemmas.Bool.{cases_eq, cases_lt, lt-ltb, le-ltb, le-leb, lt-leb, leb-true, leb-false, true≢false}
use Rattle.std.proofs.lemmas.List.{length_push, get_or_append_left, get_or_push}
use Rattle.std.proofs.lemmas.List.Sums.{sum_by-cons, sum_by_more}
use Rattle.std.proofs.lemmas.Option.{same_Some, slice_get-get_or, slice_get_past}
use Rattle.std.proofs.lemmas.Int.Digits.{length-digits_of-le}
use Rattle.mp4_search.specs.Digits.{digits}
use Rattle.mp4_search.specs.Partition.{ArePartedAt, IsLastWith, IsParted, asked_in}
use Rattle.mp4_search.proofs.SumLaws.{sums_rise}
use Rattle.mp4_fragments.specs.Numbers.{plus, sum_of_first}
use Rattle.mp4_fragments.specs.RunSamples.{PlacedRun, all_run_samples, at_run_sample, run_sample_of, run_count}
use Rattle.mp4_fragments.specs.ByTime.{AreEarliest, AreKept, begin_of, decoded_by}
use Rattle.mp4_fragments.specs.ByTime.{earlier, first_decoded, in_run_by, run_sample_by, run_sample_time, runs_by}
use Rattle.mp4_moof.specs.declared.trun.TrunBox.{TrunBox}
use Rattle.mp4_fragments.specs.Index.{Find, Indexes, placed_at}
use Rattle.mp4_fragments.specs.declared.defaults.SampleDefaults.{SampleDefaults}
use Rattle.mp4_fragments.specs.Entry.{Entry}
use Rattle.mp4_fragments.specs.declared.index.RunIndex.{RunIndex}
use Rattle.mp4_fragments.specs.declared.run_samples.RunStart.{RunStart}
use Rattle.mp4_fragments.proofs.Finding.{entry_of, length-all_run_samples, length-entries, slice_get-all_run_samples}
use Rattle.mp4_fragments.proofs.Cursors.{placed_by}
use Rattle.mp4_fragments.proofs.ListedValues.{sum_of_first-more}

-- The same as `AreEarliest`, in words that proofs take apart: that is made of claims of which each has one proof, as a
-- fact of a track has to be.
record AreLeast (begins : ℕ → Option ℕ) (from : ℕ) (times : List ℕ) : Type 0 where
  past : (r : ℕ) → from + length times ≤ r → begins r ≡ None
  least : (q r : ℕ) → q < length times → from + length times - 1 - q ≤ r
      → IfSome (begins r) (λ t. slice_index times q ≤ t)
  own : (q : ℕ) → q < length times → (begins (from + length times - 1 - q) ≡ Some (slice_index times q))
      ⊎ ((0 < q) × (slice_index times q ≡ slice_index times (q - 1)))
  fall : (p q : ℕ) → p ≤ q → q < length times → slice_index times q ≤ slice_index times p

earliest : (begins : ℕ → Option ℕ) (from : ℕ) (times : List ℕ) → AreLeast begins from times
    → AreEarliest begins from times
earliest begins from times s = record {
  past = s.past;
  least = λ q r t h k e. rw e at (s.least q r h k);
  own = λ q h ne. ⊎_elim
      (λ (mine : begins (from + length times - 1 - q) ≡ Some (slice_index times q)). mine)
      (λ (as_next : (0 < q) × (slice_index times q ≡ slice_index times (q - 1))). absurd (ne as_next))
      (s.own q h);
  fall = s.fall;
}

least : (begins : ℕ → Option ℕ) (from : ℕ) (times : List ℕ) → AreEarliest begins from times
    → AreLeast begins from times
least begins from times s = record {
  past = s.past;
  least = λ q r h k. if_some (begins r) (λ t. slice_index times q ≤ t) (λ t e. s.least q r t h k e);
  own = λ q h. ⊎_elim
      (λ (first : q < 1). inl (s.own q h (λ as_next. omega (arith, first, as_next.0))))
      (λ (later : 1 ≤ q). ⊎_elim
      (λ (same : slice_index times q ≡ slice_index times (q - 1)). inr (omega (arith, later), same))
      (λ ne. inl (s.own q h (λ as_next. ne as_next.1)))
      (cases_eq (slice_index times q) (slice_index times (q - 1))))
      (cases_lt q 1);
  fall = s.fall;
}
  where
    if_some : (o : Option ℕ) (P : ℕ → Type 0) → ((t : ℕ) → o ≡ Some t → P t) → IfSome o P
    if_some None P f = tt
    if_some (Some t) P f = f t refl

-- none is kept yet
pub none_kept : (begins : ℕ → Option ℕ) (from : ℕ) → ((r : ℕ) → from ≤ r → begins r ≡ None)
    → AreKept begins from [] None
none_kept begins from past = record {
  kept = earliest begins from [] (record {
    past = λ r h. past r (omega (arith, h));
    least = λ q r h. absurd (omega (arith, h));
    own = λ q h. absurd (omega (arith, h));
    fall = λ p q h k. absurd (omega (arith, k));
  });
  last = refl;
}

-- a run more in front, which begins at no known time, where nothing is kept
pub none_more : (begins : ℕ → Option ℕ) (from : ℕ) (times : List ℕ) → AreEarliest begins (from + 1) times
    → length times ≡ 0 → begins from ≡ None → AreEarliest begins from times
none_more begins from times s none e = earliest begins from times (record {
  past = λ r h. ⊎_elim
      (λ (here : r < from + 1). let same : from ≡ r = omega (arith, none, h) in rw same at e)
      (λ (after : from + 1 ≤ r). s.past r (omega (arith, none)))
      (cases_lt r (from + 1));
  least = λ q r h. absurd (omega (arith, none, h));
  own = λ q h. absurd (omega (arith, none, h));
  fall = λ p q h k. absurd (omega (arith, none, k));
})

-- what is kept where a run begins
least_of : (o : Option ℕ) (t u : ℕ) → t ≤ u → IfSome o (λ x. u ≤ x) → IfSome o (λ x. t ≤ x)
least_of None t u h s = tt
least_of (Some x) t u h s = omega (arith, h, s)

-- a run more in front: its own time is kept, or that of the run after it where that is earlier
pub one_more : (begins : ℕ → Option ℕ) (from t : ℕ) (times : List ℕ) → AreEarliest begins (from + 1) times
    → IfSome (begins from) (λ b. t ≤ b)
    → (0 < length times → t ≤ slice_index times (length times - 1))
    → (begins from ≡ Some t) ⊎ ((0 < length times) × (t ≡ slice_index times (length times - 1)))
    → AreEarliest begins from (times ++ t ∷ [])
one_more begins from t times kept mine below own =
    let s = least begins (from + 1) times kept in
    let n = length times in
    let all = times ++ t ∷ [] in
    let many : length all ≡ n + 1 = length_push times t in
    let old : (q : ℕ) → q < n → slice_index all q ≡ slice_index times q =
    λ q h. get_or_append_left times (t ∷ []) 0 q h in
    let new : slice_index all n ≡ t = get_or_push times t 0 n refl in
    earliest begins from (times ++ t ∷ []) (record {
      past = λ r h. s.past r (omega (arith, h, many));
      least = λ q r h k. ⊎_elim
          (λ (before : q < n). rw (old q before) (⊎_elim
          (λ (here : r < from + 1 + n - 1 - q). absurd (omega (arith, many, k)))
          (λ (after : from + 1 + n - 1 - q ≤ r). s.least q r before after)
          (cases_lt r (from + 1 + n - 1 - q))))
          (λ (last : n ≤ q).
          let at : n ≡ q = omega (arith, many) in
          rw (← at, new) (⊎_elim
          (λ (here : r < from + 1). let same : from ≡ r = omega (arith, many, k) in rw same at mine)
          (λ (after : from + 1 ≤ r). ⊎_elim
          (λ (some : 0 < n). least_of (begins r) t (slice_index times (n - 1)) (below some)
          (s.least (n - 1) r (omega arith) (omega arith)))
          (λ (none : n ≤ 0). rw (s.past r (omega arith)) tt)
          (cases_lt 0 n))
          (cases_lt r (from + 1))))
          (cases_lt q n);
      own = λ q h. ⊎_elim
          (λ (before : q < n).
          let at : from + 1 + n - 1 - q ≡ from + length all - 1 - q = omega (arith, many) in
          ⊎_elim
          (λ (mine : begins (from + 1 + n - 1 - q) ≡ Some (slice_index times q)).
          inl (rw (← at, old q before) mine))
          (λ (as_next : (0 < q) × (slice_index times q ≡ slice_index times (q - 1))).
          inr (as_next.0, old q before ∙ as_next.1 ∙ sym (old (q - 1) (omega arith))))
          (s.own q before))
          (λ (last : n ≤ q).
          let at : n ≡ q = omega (arith, h, many) in
          let place : from ≡ from + length all - 1 - q = omega (arith, many, at) in
          ⊎_elim
          (λ (mine : begins from ≡ Some t). inl (rw (← place, ← at, new) mine))
          (λ (as_next : (0 < n) × (t ≡ slice_index times (n - 1))).
          inr (omega (arith, as_next.0), rw (← at) (new ∙ as_next.1 ∙ sym (old (n - 1) (omega (arith, as_next.0))))))
          own)
          (cases_lt q n);
      fall = λ p q h k. ⊎_elim
          (λ (before : q < n). rw (old q before, old p (omega arith)) (s.fall p q h before))
          (λ (last : n ≤ q).
          let at : n ≡ q = omega (arith, k, many) in
          rw (← at, new) (⊎_elim
          (λ (before : p < n). rw (old p before)
          (omega (arith, below (omega arith), s.fall p (n - 1) (omega arith) (omega arith))))
          (λ (same : n ≤ p). let e : n ≡ p = omega arith in rw (← e, new) (omega arith))
          (cases_lt p n)))
          (cases_lt q n);
    })

-- the time that was kept last
kept_last : (times : List ℕ) (t : ℕ) → (0 < length (times ++ t ∷ []))
    × (t ≡ slice_index (times ++ t ∷ []) (length (times ++ t ∷ []) - 1))
kept_last times t =
    let last : length times ≡ length (times ++ t ∷ []) - 1 = omega (arith, length_push times t) in (
      omega (arith, length_push times t),
      sym (get_or_push times t 0 (length (times ++ t ∷ []) - 1) last),
    )

-- the smaller of two times is one of them
smaller : (t u : ℕ) (begins : ℕ → Option ℕ) (from : ℕ) (times : List ℕ) → begins from ≡ Some u
    → (0 < length times) × (t ≡ slice_index times (length times - 1))
    → (begins from ≡ Some (min t u)) ⊎ ((0 < length times) × (min t u ≡ slice_index times (length times - 1)))
smaller t u begins from times e last =
    ⊎_elim
    (λ (h : t < u). inr (last.0, omega (arith, last.1)))
    (λ (h : u ≤ t). let is : u ≡ min t u = omega arith in inl (e ∙ ap (λ (n : ℕ). Some n) is))
    (cases_lt t u)

-- one run more, by the time that is kept last
pub keep_more : (begins : ℕ → Option ℕ) (from : ℕ) (times new : List ℕ) (last b : Option ℕ)
    → AreKept begins (from + 1) times last → begins from ≡ b
    → MatchOption (earlier last b) (new ≡ times) (λ t. new ≡ times ++ t ∷ [])
    → AreKept begins from new (earlier last b)
keep_more begins from times new None None s e pushed = rw pushed (record {
  kept = none_more begins from times s.kept s.last e;
  last = s.last;
})
keep_more begins from times new None (Some u) s e pushed =
    rw pushed (record {
      kept = one_more begins from u times s.kept (rw e (omega arith)) (λ h. absurd (omega (arith, h, s.last))) (inl e);
      last = kept_last times u;
    })
keep_more begins from times new (Some t) None s e pushed =
    rw pushed (record {
      kept = one_more begins from t times s.kept (rw e tt) (λ h. omega (arith, s.last.1)) (inr s.last);
      last = kept_last times t;
    })
keep_more begins from times new (Some t) (Some u) s e pushed =
    rw pushed (record {
      kept = one_more begins from (min t u) times s.kept (rw e (omega arith)) (λ h. omega (arith, s.last.1))
          (smaller t u begins from times e s.last);
      last = kept_last times (min t u);
    })

-- a run that begins, by its fields
pub begins_at : (runs : List PlacedRun) (end i t : ℕ) (d : PlacedRun) → begin_of runs end i ≡ Some t
    → (i < length runs) × (sum_by run_count (take i runs) < end) × (0 < run_count (get_or runs i d))
    × ((get_or runs i d).at.time ≡ Some t)
unfolding begin_of
begins_at runs end i t d e =
    let p = get_or runs i d in
    let before = sum_by run_count (take i runs) in
    ⊎_elim
    (λ (below : before < end).
    let first : option_and_then first_decoded (slice_get runs i) ≡ Some t = rw (lt-ltb before end below) at e in
    ⊎_elim
    (λ (h : i < length runs).
    let mine : first_decoded p ≡ Some t = rw (slice_get-get_or runs i d h) at first in
    ⊎_elim
    (λ (some : 0 < run_count p). (h, below, some, rw (lt-ltb 0 (run_count p) some) at mine))
    (λ (none : run_count p ≤ 0). let wrong : None ≡ Some t = rw (le-ltb 0 (run_count p) none) at mine in absurd cc)
    (cases_lt 0 (run_count p)))
    (λ (past : length runs ≤ i). let wrong : None ≡ Some t = rw (slice_get_past runs i past) at first in absurd cc)
    (cases_lt i (length runs)))
    (λ (above : end ≤ before). let wrong : None ≡ Some t = rw (le-ltb before end above) at e in absurd cc)
    (cases_lt before end)

-- when a run begins whose first sample has a number below the end
pub begin_is : (runs : List PlacedRun) (end i : ℕ) (d : PlacedRun) → i < length runs
    → sum_by run_count (take i runs) < end → begin_of runs end i ≡ first_decoded (get_or runs i d)
unfolding begin_of
begin_is runs end i d h below =
    rw (lt-ltb _ _ below, slice_get-get_or runs i d h) refl

-- none begins past them
pub begin_past : (runs : List PlacedRun) (end i : ℕ)
    → (i < length runs → end ≤ sum_by run_count (take i runs)) → begin_of runs end i ≡ None
unfolding begin_of
begin_past runs end i above =
    ⊎_elim
    (λ (h : i < length runs). rw (le-ltb _ _ (above h)) refl)
    (λ (past : length runs ≤ i). none_if (nat_lt (sum_by run_count (take i runs)) end) (slice_get runs i)
    (slice_get_past runs i past))
    (cases_lt i (length runs))
  where
    none_if : (b : Bool) (o : Option PlacedRun) → o ≡ None
        → (if b then option_and_then first_decoded o else None) ≡ None
    none_if true o e = rw e refl
    none_if false o e = refl

-- when sample j of a run is decoded
pub time_is : (runs : List PlacedRun) (n i : ℕ) (d : PlacedRun) → i < length runs
    → sum_by run_count (take i runs) ≤ n → n - sum_by run_count (take i runs) < run_count (get_or runs i d)
    → run_sample_time runs n ≡ (at_run_sample (get_or runs i d).run (get_or runs i d).defaults (get_or runs i d).at
    (n - sum_by run_count (take i runs))).time
unfolding run_sample_time run_sample_of
time_is runs n i d h reached inside =
    rw (slice_get-all_run_samples runs n i (sum_by run_count (take i runs)) d h refl reached inside) refl

time_past : (runs : List PlacedRun) (n : ℕ) → length (all_run_samples runs) ≤ n → run_sample_time runs n ≡ None
unfolding run_sample_time
time_past runs n past = rw (slice_get_past (all_run_samples runs) n past) refl

-- the run that a number is in
in_run : (runs : List PlacedRun) (n : ℕ) (d : PlacedRun) → n < sum_by run_count runs
    → (r : ℕ) × (r < length runs) × (sum_by run_count (take r runs) ≤ n)
    × (n - sum_by run_count (take r runs) < run_count (get_or runs r d))
in_run [] n d h = absurd (omega (arith, h))
in_run (p ∷ runs) n d h =
    ⊎_elim
    (λ (here : n < run_count p). (0, omega arith, omega arith, omega arith))
    (λ (after : run_count p ≤ n).
    let rest = in_run runs (n - run_count p) d (omega (arith, sum_by-cons run_count p runs)) in
    let more = sum_by-cons run_count p (take (rest.0) runs) in (
      suc rest.0,
      omega (arith, rest.1),
      omega (arith, more, rest.2),
      omega (arith, more, rest.2, rest.3),
    ))
    (cases_lt n (run_count p))

-- what is decoded later on
late_on : (time x : ℕ) (o : Option ℕ) → decoded_by time o ≡ false → decoded_by time (plus o x) ≡ false
late_on time x None h = refl
late_on time x (Some t) h =
    ⊎_elim
    (λ (fits : t + x < 2 ^ 64).
    let late : time < t = not_early t time h in
    rw (lt-ltb _ _ fits) (lt-leb _ _ (omega (arith, late))))
    (λ (broken : 2 ^ 64 ≤ t + x). rw (le-ltb _ _ broken) refl)
    (cases_lt (t + x) (2 ^ 64))
  where
    not_early : (t time : ℕ) → nat_le t time ≡ false → time < t
    not_early t time h =
        ⊎_elim
        (λ (late : time < t). late)
        (λ (early : t ≤ time). absurd (true≢false (sym (le-leb t time early) ∙ h)))
        (cases_lt time t)

-- the run of an entry
pub placed_is : (find : Find) (e : Entry) (run : TrunBox) (defaults : SampleDefaults) (p : PlacedRun)
    → Some (run, defaults) ≡ find e.traf e.run → placed_at find e ≡ Some p
    → p ≡ record { at = e.at; run = run; defaults = defaults }
unfolding placed_at
placed_is find e run defaults p found there =
    let here : placed_at find e ≡ Some (record { at = e.at; run = run; defaults = defaults }) = rw (← found) refl in
    same_Some _ _ (sym there ∙ here)

pub placed_here : (find : Find) (e : Entry) (run : TrunBox) (defaults : SampleDefaults)
    → Some (run, defaults) ≡ find e.traf e.run
    → placed_at find e ≡ Some (record { at = e.at; run = run; defaults = defaults })
unfolding placed_at
placed_here find e run defaults found = rw (← found) refl

pub placed_nowhere : (find : Find) (e : Entry) (p : PlacedRun) → None ≡ find e.traf e.run
    → placed_at find e ≡ Some p → ⊥
unfolding placed_at
placed_nowhere find e p none there =
    let wrong : None ≡ Some p = rw (← none) at there in absurd cc

-- the times of a run's samples rise, up to the first that is overflowed
sum_rises : (values : List ℕ) (default i j : ℕ) → i ≤ j
    → sum_of_first i values default ≤ sum_of_first j values default
sum_rises values default i zero h = let e : i ≡ 0 = omega arith in rw e (omega arith)
sum_rises values default i (suc j) h =
    ⊎_elim
    (λ (before : i < j + 1).
    let rest = sum_rises values default i j (omega arith) in
    let e : suc j ≡ j + 1 = omega arith in
    rw e (omega (arith, rest, sum_of_first-more j values default)))
    (λ (same : j + 1 ≤ i). let e : i ≡ suc j = omega arith in rw e (omega arith))
    (cases_lt i (j + 1))

earlier_on : (time a b : ℕ) (o : Option ℕ) → a ≤ b → decoded_by time (plus o b) ≡ true
    → decoded_by time (plus o a) ≡ true
earlier_on time a b None h e = absurd (true≢false (sym e))
earlier_on time a b (Some t) h e =
    ⊎_elim
    (λ (fits : t + b < 2 ^ 64).
    let early : nat_le (t + b) time ≡ true = rw (lt-ltb _ _ fits) at e in
    rw (lt-ltb (t + a) (2 ^ 64) (omega arith))
    (le-leb (t + a) time (omega (arith, leb-true (t + b) time early))))
    (λ (broken : 2 ^ 64 ≤ t + b). absurd (true≢false (sym (rw (le-ltb _ _ broken) at e))))
    (cases_lt (t + b) (2 ^ 64))

pub run_samples_parted : (run : TrunBox) (defaults : SampleDefaults) (first : RunStart) (time n : ℕ)
    → IsParted (λ j. decoded_by time (at_run_sample run defaults first j).time) n
unfolding at_run_sample
run_samples_parted run defaults first time n = record {
  earlier = λ i j h k. earlier_on time (sum_of_first i run.sample_durations defaults.duration)
      (sum_of_first j run.sample_durations defaults.duration) first.time
      (sum_rises run.sample_durations defaults.duration i j h);
}

-- which runs begin with a sample below an end
pub below_end : (find : Find) (runs : List PlacedRun) (index : RunIndex) (end r : ℕ) → Indexes find runs index
    → 1 ≤ end → end < 2 ^ 32 → r < length index.counts → slice_index index.counts r ≤ end - 1
    → sum_by run_count (take r runs) < end
below_end find runs index end r s some limit within small =
    omega (arith, s.counts.count, s.counts.each r (omega (arith, s.counts.count)))

pub past_end : (find : Find) (runs : List PlacedRun) (index : RunIndex) (end r : ℕ) → Indexes find runs index
    → r < length index.counts → end - 1 < slice_index index.counts r → end ≤ sum_by run_count (take r runs)
past_end find runs index end r s within large =
    omega (arith, s.counts.count, s.counts.each r (omega (arith, s.counts.count)))

-- the run whose entry is read next is kept
pub begin_kept : (find : Find) (es : List Entry) (runs : List PlacedRun) (index : RunIndex) (end r : ℕ)
    (entry : Entry) (begin : Option ℕ) → Indexes find runs index → es ≡ index.entries → entry ≡ get_or es r entry
    → r < length index.entries → sum_by run_count (take r runs) < end
    → ((p : PlacedRun) → placed_at find entry ≡ Some p → begin ≡ first_decoded p)
    → begin_of runs end r ≡ begin
begin_kept find es [] index end r entry begin s e1 is h below mine =
    absurd (omega (arith, h, length-entries find [] index s, s.counts.count))
begin_kept find es (d ∷ runs) index end r entry begin s e1 is h below mine =
    let all = d ∷ runs in
    let within : r < length all = omega (arith, h, length-entries find all index s, s.counts.count) in
    let there : placed_at find entry ≡ Some (get_or all r d) =
    ap (placed_at find) (is ∙ ap (λ (xs : List Entry). get_or xs r entry) e1)
    ∙ entry_of find all index r entry d s within in
    begin_is all end r d within below ∙ sym (mine (get_or all r d) there)

-- none is kept past the runs below the end
pub begins_none : (find : Find) (runs : List PlacedRun) (index : RunIndex) (end n r : ℕ) → Indexes find runs index
    → ((i : ℕ) → n ≤ i → i < length index.entries → end ≤ sum_by run_count (take i runs)) → n ≤ r
    → begin_of runs end r ≡ None
begins_none find runs index end n r s past h =
    begin_past runs end r (λ within. past r h (omega (arith, within, length-entries find runs index s, s.counts.count)))

pub digits_32 : (n : ℕ) → n < 2 ^ 32 → digits n ≤ 32
unfolding digits
digits_32 n h = length-digits_of-le 2 32 n (omega arith) h

pub runs_parted : (begins : ℕ → Option ℕ) (times : List ℕ) (time : ℕ) → AreEarliest begins 0 times
    → IsParted (runs_by times time) (length times)
runs_parted begins times time s = record {
  earlier = λ i j h k e.
      let later = leb-true (slice_index times (length times - 1 - j)) time e in
      le-leb (slice_index times (length times - 1 - i)) time (omega (
        arith,
        later,
        s.fall (length times - 1 - j) (length times - 1 - i) (omega arith) (omega arith),
      ));
}

-- what begins no earlier than something late is late
late_begin : (o : Option ℕ) (least time : ℕ) → IfSome o (λ t. least ≤ t) → nat_le least time ≡ false
    → decoded_by time o ≡ false
late_begin None least time s h = refl
late_begin (Some t) least time s h = lt-leb t time (omega (arith, s, leb-false least time h))

-- no run from the one on that was found begins so early
pub late_runs : (begins : ℕ → Option ℕ) (times : List ℕ) (time c r : ℕ) → AreEarliest begins 0 times
    → ArePartedAt (runs_by times time) (length times) c → c ≤ r → decoded_by time (begins r) ≡ false
late_runs begins times time c r kept at h =
    let s = least begins 0 times kept in
    ⊎_elim
    (λ (inside : r < length times).
    let q = length times - 1 - r in
    late_begin (begins r) (slice_index times q) time (s.least q r (omega arith) (omega arith)) (at.others r h inside))
    (λ (past : length times ≤ r). rw (s.past r (omega arith)) refl)
    (cases_lt r (length times))

-- and the run before it does
pub found_run : (begins : ℕ → Option ℕ) (times : List ℕ) (time c : ℕ) → AreEarliest begins 0 times
    → ArePartedAt (runs_by times time) (length times) c → 1 ≤ c
    → (t : ℕ) × (begins (c - 1) ≡ Some t) × (t ≤ time)
found_run begins times time c kept at some =
    let s = least begins 0 times kept in
    let within = at.within in
    let q = length times - 1 - (c - 1) in
    let place : 0 + length times - 1 - q ≡ c - 1 = omega (arith, within, some) in
    let early : slice_index times q ≤ time = leb-true _ _ (at.first (c - 1) (omega (arith, some))) in
    ⊎_elim
    (λ (mine : begins (0 + length times - 1 - q) ≡ Some (slice_index times q)).
    (slice_index times q, rw place at mine, early))
    (λ (as_next : (0 < q) × (slice_index times q ≡ slice_index times (q - 1))).
    let next : length times - 1 - c ≡ q - 1 = omega (arith, within, some) in
    let late : nat_le (slice_index times (length times - 1 - c)) time ≡ false =
    at.others c (omega arith) (omega (arith, as_next.0, within)) in
    absurd (omega (arith, as_next.1, early, leb-false _ _ (rw next at late))))
    (s.own q (omega (arith, within, some)))

-- there are at most as many times as runs
pub few_times : (runs : List PlacedRun) (end : ℕ) (times : List ℕ) → AreEarliest (begin_of runs end) 0 times
    → length times ≤ length runs
few_times runs end times s =
    ⊎_elim
    (λ (h : length runs < length times).
    let mine : begin_of runs end (0 + length times - 1 - 0) ≡ Some (slice_index times 0) =
    s.own 0 (omega (arith, h)) (λ as_next. omega (arith, as_next.0)) in
    let none : begin_of runs end (0 + length times - 1 - 0) ≡ None =
    begin_past runs end (0 + length times - 1 - 0) (λ k. absurd (omega (arith, h, k))) in
    let wrong : None ≡ Some (slice_index times 0) = sym none ∙ mine in
    absurd cc)
    (λ few. few)
    (cases_lt (length runs) (length times))

first_is : (p : PlacedRun) → 0 < run_count p → first_decoded p ≡ p.at.time
first_is p some = rw (lt-ltb 0 (run_count p) some) refl

-- no sample of a run that begins late is decoded early
late_run_sample : (runs : List PlacedRun) (end time n r : ℕ) (d : PlacedRun) → r < length runs
    → sum_by run_count (take r runs) ≤ n → n - sum_by run_count (take r runs) < run_count (get_or runs r d) → n < end
    → decoded_by time (begin_of runs end r) ≡ false → decoded_by time (run_sample_time runs n) ≡ false
unfolding at_run_sample
late_run_sample runs end time n r d h reached inside below late =
    let p = get_or runs r d in
    let begin : begin_of runs end r ≡ p.at.time =
    begin_is runs end r d h (omega (arith, reached, below)) ∙ first_is p (omega (arith, inside)) in
    rw (time_is runs n r d h reached inside) (late_on time
    (sum_of_first (n - sum_by run_count (take r runs)) p.run.sample_durations p.defaults.duration) p.at.time
    (rw begin at late))

past_early : (runs : List PlacedRun) (time j : ℕ) → sum_by run_count runs ≤ j
    → decoded_by time (run_sample_time runs j) ≡ false
past_early runs time j past = rw (time_past runs j (omega (arith, length-all_run_samples runs, past))) refl

-- no sample is decoded so early where no run begins so early
pub none_early : (runs : List PlacedRun) (end time : ℕ)
    → ((r : ℕ) → decoded_by time (begin_of runs end r) ≡ false)
    → (j : ℕ) → j < end → decoded_by time (run_sample_time runs j) ≡ false
none_early [] end time late j h = past_early [] time j (omega arith)
none_early (d ∷ runs) end time late j h =
    let all = d ∷ runs in
    ⊎_elim
    (λ (inside : j < sum_by run_count all).
    let at = in_run all j d inside in
    late_run_sample all end time j at.0 d at.1 at.2 at.3 h (late at.0))
    (λ (past : sum_by run_count all ≤ j). past_early all time j past)
    (cases_lt j (sum_by run_count all))

-- the first sample of a run is decoded when the run begins
at_first : (p : PlacedRun) (time t : ℕ) → p.at.time ≡ Some t → t ≤ time → time < 2 ^ 64
    → decoded_by time (at_run_sample p.run p.defaults p.at 0).time ≡ true
unfolding at_run_sample sum_of_first
at_first p time t e early small =
    let same : t + 0 ≡ t = omega arith in
    rw (e, same, lt-ltb t (2 ^ 64) (omega (arith, early, small))) (le-leb t time early)

-- the samples of a run that are decoded at or before a time, of those below an end: some, and the last of all
pub last_early : (runs : List PlacedRun) (end time c before run_samples : ℕ) (d : PlacedRun) (times : List ℕ)
    → AreEarliest (begin_of runs end) 0 times → ArePartedAt (runs_by times time) (length times) c → 1 ≤ c
    → time < 2 ^ 64 → before ≡ sum_by run_count (take (c - 1) runs)
    → ArePartedAt (λ j. decoded_by time (at_run_sample (get_or runs (c - 1) d).run (get_or runs (c - 1) d).defaults
    (get_or runs (c - 1) d).at j).time) (min (end - before) (run_count (get_or runs (c - 1) d))) run_samples
    → (1 ≤ run_samples) × IsLastWith (run_sample_by runs time) end (before + run_samples - 1)
last_early runs end time c before run_samples d times s at some small counted parted =
    let p = get_or runs (c - 1) d in
    let found = found_run (begin_of runs end) times time c s at some in
    let begin = begins_at runs end (c - 1) found.0 d found.1 in
    let one : 1 ≤ run_samples =
    ⊎_elim
    (λ (none : run_samples < 1).
    absurd (true≢false (sym (at_first p time found.0 begin.3 found.2 small)
    ∙ parted.others 0 (omega arith) (omega (arith, counted, begin.1, begin.2)))))
    (λ q. q)
    (cases_lt run_samples 1) in
    let within = parted.within in
    let n = before + run_samples - 1 in
    let passed : n - sum_by run_count (take (c - 1) runs) ≡ run_samples - 1 = omega (arith, counted, one) in
    let time_of : (j : ℕ) → sum_by run_count (take (c - 1) runs) ≤ j
    → j - sum_by run_count (take (c - 1) runs) < run_count p
    → run_sample_time runs j ≡ (at_run_sample p.run p.defaults p.at (j - sum_by run_count (take (c - 1) runs))).time =
    λ j h k. time_is runs j (c - 1) d begin.0 h k in (
      one,
      record {
        within = omega (arith, within, one, counted, begin.1);
        own = rw (time_of n (omega (arith, counted, one)) (omega (arith, passed, within, one)), passed)
            (parted.first (run_samples - 1) (omega (arith, one)));
        later = λ j h k. ⊎_elim
            (λ (inside : j < sum_by run_count runs).
            let r = in_run runs j d inside in
            ⊎_elim
            (λ (earlier_run : r.0 < c - 1).
            let more = sum_by_more run_count runs r.0 d r.1 in
            let upto = sums_rise run_count runs (r.0 + 1) (c - 1) (omega (arith, earlier_run)) in
            absurd (omega (arith, more, upto, r.3, r.2, h, counted, one)))
            (λ (from_here : c - 1 ≤ r.0). ⊎_elim
            (λ (here : r.0 < c).
            let same : r.0 ≡ c - 1 = omega (arith, from_here, here) in
            let reached = rw same at r.2 in
            let inside_run = rw same at r.3 in
            rw (time_of j reached inside_run) (parted.others (j - sum_by run_count (take (c - 1) runs))
            (omega (arith, h, counted, one)) (omega (arith, k, counted, reached, inside_run))))
            (λ (after : c ≤ r.0). late_run_sample runs end time j r.0 d r.1 r.2 r.3 k
            (late_runs (begin_of runs end) times time c r.0 s at after))
            (cases_lt r.0 c))
            (cases_lt r.0 (c - 1)))
            (λ (past : sum_by run_count runs ≤ j). past_early runs time j past)
            (cases_lt j (sum_by run_count runs));
      },
    )

-- the run that was found has an entry, and begins with a sample below the end
pub run_found : (find : Find) (runs : List PlacedRun) (index : RunIndex) (end time c i : ℕ) (times : List ℕ)
    → Indexes find runs index → AreEarliest (begin_of runs end) 0 times
    → ArePartedAt (runs_by times time) (length times) c → 1 ≤ c → i ≡ c - 1 → end < 2 ^ 32
    → (i < length runs) × (i < length index.counts) × (i < length index.entries)
    × (slice_index index.counts i ≡ sum_by run_count (take i runs)) × (sum_by run_count (take i runs) < end)
run_found find [] index end time c i times s earliest at some e small =
    let found = found_run (begin_of [] end) times time c earliest at some in
    let none : begin_of [] end (c - 1) ≡ None = begin_past [] end (c - 1) (λ h. absurd (omega (arith, h))) in
    let wrong : None ≡ Some found.0 = sym none ∙ found.1 in
    absurd cc
run_found find (d ∷ runs) index end time c i times s earliest at some e small =
    let all = d ∷ runs in
    let found = found_run (begin_of all end) times time c earliest at some in
    let begin = begins_at all end (c - 1) found.0 d found.1 in
    let within : i < length all = rw e begin.0 in
    let below : sum_by run_count (take i all) < end = rw e begin.1 in
    let counted = s.counts.each i within in (
      within,
      omega (arith, s.counts.count, within),
      omega (arith, s.counts.count, within, length-entries find all index s),
      omega (arith, counted, below),
      below,
    )

-- its samples that are decoded at or before the time: some, and the last of all
pub answer_early : (find : Find) (es : List Entry) (runs : List PlacedRun) (index : RunIndex)
    (end time c i before run_samples : ℕ) (entry : Entry) (times : List ℕ) → Indexes find runs index
    → es ≡ index.entries → entry ≡ get_or es i entry → AreEarliest (begin_of runs end) 0 times
    → ArePartedAt (runs_by times time) (length times) c → 1 ≤ c → i ≡ c - 1 → time < 2 ^ 64 → end < 2 ^ 32
    → before ≡ slice_index index.counts i
    → ((p : PlacedRun) → placed_at find entry ≡ Some p
    → ArePartedAt (λ j. decoded_by time (at_run_sample p.run p.defaults p.at j).time) (min (end - before) (run_count p))
    run_samples)
    → (1 ≤ run_samples) × IsLastWith (run_sample_by runs time) end (before + run_samples - 1)
answer_early find es [] index end time c i before run_samples entry times s e1 is earliest at some e small limit counted
    parted =
    let found = run_found find [] index end time c i times s earliest at some e limit in
    absurd (omega (arith, found.0))
answer_early find es (d ∷ runs) index end time c i before run_samples entry times s e1 is earliest at some e small limit
    counted parted =
    let all = d ∷ runs in
    let found = run_found find all index end time c i times s earliest at some e limit in
    let mine = parted (get_or all i d) (placed_by find es all index i entry d s e1 is found.0) in
    last_early all end time c before run_samples d times earliest at some small
    (rw (← e) (counted ∙ found.3)) (rw (← e) mine)

-- two counts of those that have something are the same
pub parted_once : (has : ℕ → Bool) (n a b : ℕ) → ArePartedAt has n a → ArePartedAt has n b → a ≡ b
parted_once has n a b s t =
    ⊎_elim
    (λ (less : a < b).
    absurd (true≢false (sym (t.first a less) ∙ s.others a (omega arith) (omega (arith, less, t.within)))))
    (λ (most : b ≤ a). ⊎_elim
    (λ (more : b < a).
    absurd (true≢false (sym (s.first b more) ∙ t.others b (omega arith) (omega (arith, more, s.within)))))
    (λ (least : a ≤ b). omega (arith, most, least))
    (cases_lt b a))
    (cases_lt a b)

-- what is counted in the run that was found is counted in the last run that begins so early
pub counted_early : (find : Find) (es : List Entry) (runs : List PlacedRun) (index : RunIndex)
    (end time c i before old new : ℕ) (entry : Entry) (times : List ℕ) → Indexes find runs index
    → es ≡ index.entries → entry ≡ get_or es i entry → AreEarliest (begin_of runs end) 0 times
    → ArePartedAt (runs_by times time) (length times) c → 1 ≤ c → i ≡ c - 1 → end < 2 ^ 32
    → before ≡ slice_index index.counts i
    → ((p : PlacedRun) → placed_at find entry ≡ Some p
    → new ≡ old + asked_in (in_run_by p time) (min (end - before) (run_count p)))
    → (r : ℕ) (p : PlacedRun) → ArePartedAt (runs_by times time) (length times) (r + 1) → slice_get runs r ≡ Some p
    → new ≡ old + asked_in (in_run_by p time) (min (end - sum_by run_count (take r runs)) (run_count p))
counted_early find es runs index end time c i before old new entry times s e1 is earliest at some e limit counted_before
    counted r p last there =
    let found = run_found find runs index end time c i times s earliest at some e limit in
    let one = parted_once (runs_by times time) (length times) (r + 1) c last at in
    let here : i ≡ r = omega (arith, one, e) in
    let own : get_or runs i p ≡ p = same_Some _ _ (sym (slice_get-get_or runs i p found.0) ∙ rw here there) in
    let known : before ≡ sum_by run_count (take r runs) = rw (← here) (counted_before ∙ found.3) in
    rw (← known) (counted p (rw own at (placed_by find es runs index i entry p s e1 is found.0)))
