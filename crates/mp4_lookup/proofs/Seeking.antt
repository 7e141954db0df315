-- The last sample that is decoded at or before a time, and the last sync sample up to a number.
use Rattle.std.proofs.Common.{◌≡◌, ℕ, zero, suc, ◌+◌, ◌-◌, ◌*◌, ◌^◌, ◌<◌, ◌≤◌, min, Bool, false}
use Rattle.std.proofs.Common.{List, [], ◌∷◌, length, get_or, replicate, sum, take, Option, Some, None}
use Rattle.std.proofs.Common.{refl, ap, ◌∙◌, arith, ⊎_elim}
use Rattle.std.specs.Prelude.{nat_le, slice_index}
use Rattle.std.specs.List.{All, flat_map, sum_by}
use Rattle.std.proofs.lemmas.Bool.{cases_lt, leb-true, leb-false, le-leb, lt-leb, lt-ltb}
use Rattle.std.proofs.lemmas.List.{length-take, take_all}
use Rattle.std.proofs.lemmas.List.Elements.{All-append, All-replicate, All-take}
use Rattle.std.proofs.lemmas.List.Sums.{sum_by-le, sum_by_more}
use Rattle.mp4_table.specs.declared.stts.SttsEntry.{SttsEntry}
use Rattle.mp4_table.specs.Runs.{durations, expand}
use Rattle.mp4_table.specs.Starts.{start_of}
use Rattle.mp4_fragments.specs.ByTime.{decoded_by}
use Rattle.mp4_search.specs.Partition.{AnswersLast, ArePartedAt, IsLastWith, IsParted}
use Rattle.mp4_search.proofs.SumLaws.{sums_rise}
use Rattle.mp4_lookup.proofs.Times.{start_is}
use Rattle.mp4_lookup.specs.ByTime.{time_in}
use Rattle.mp4_lookup.proofs.RunLaws.{length-expand, sum-take-expand, end_of_run}
use Rattle.mp4_lookup.specs.Sums.{TimesBefore}
use Rattle.mp4_lookup.proofs.Sums.{ticks_before}

-- samples of the movie box, and after them those that are added

-- the last of those that are added is the last of all
pub last_of_added : (has added : ℕ → Bool) (count end n : ℕ)
    → ((j : ℕ) → count < j → has j ≡ added (j - count - 1)) → IsLastWith added end n
    → IsLastWith has (count + 1 + end) (count + 1 + n)
last_of_added has added count end n after last =
    let at : count + 1 + n - count - 1 ≡ n = omega arith in
    record {
      within = omega (arith, last.within);
      own = after (count + 1 + n) (omega arith) ∙ ap added at ∙ last.own;
      later = λ j h k.
          after j (omega (arith, h)) ∙ last.later (j - count - 1) (omega (arith, h)) (omega (arith, h, k));
    }

-- where none of those that are added has it, it is the last of the movie box
pub last_of_movie : (has first added : ℕ → Bool) (count end : ℕ) (last : Option ℕ)
    → ((j : ℕ) → j ≤ count → has j ≡ first j) → ((j : ℕ) → count < j → has j ≡ added (j - count - 1))
    → ((j : ℕ) → j < end → added j ≡ false) → AnswersLast first (count + 1) last
    → AnswersLast has (count + 1 + end) last
last_of_movie has first added count end None before after none last = λ j h.
    ⊎_elim
    (λ (inside : j < count + 1). before j (omega (arith, inside)) ∙ last j inside)
    (λ (past : count + 1 ≤ j). after j (omega (arith, past)) ∙ none (j - count - 1) (omega (arith, past, h)))
    (cases_lt j (count + 1))
last_of_movie has first added count end (Some n) before after none last = record {
  within = omega (arith, last.within);
  own = before n (omega (arith, last.within)) ∙ last.own;
  later = λ j h k. ⊎_elim
      (λ (inside : j < count + 1). before j (omega (arith, inside)) ∙ last.later j h inside)
      (λ (past : count + 1 ≤ j). after j (omega (arith, past)) ∙ none (j - count - 1) (omega (arith, past, k)))
      (cases_lt j (count + 1));
}

-- when samples begin

starts_rise : (xs : List ℕ) (j k : ℕ) → 1 ≤ j → j ≤ k → start_of xs j ≤ start_of xs k
starts_rise xs j k some h =
    rw (start_is xs j some, start_is xs k (omega (arith, some, h)))
    (sums_rise (λ x. x) xs (j - 1) (k - 1) (omega (arith, h)))

short_durations : (runs : List SttsEntry) → All (λ r. r.sample_delta < 2 ^ 32) runs
    → All (λ x. x ≤ 2 ^ 32 - 1) (durations runs)
unfolding expand
short_durations [] small = λ i d h. absurd (omega (arith, h))
short_durations (r ∷ runs) small =
    let here : r.sample_delta ≤ 2 ^ 32 - 1 = omega (arith, small 0 r (omega arith)) in
    All-append (λ x. x ≤ 2 ^ 32 - 1) (replicate r.sample_count r.sample_delta)
    (flat_map (λ r. replicate r.sample_count r.sample_delta) runs)
    (All-replicate (λ x. x ≤ 2 ^ 32 - 1) r.sample_count r.sample_delta here)
    (short_durations runs (λ i d h. small (suc i) d (omega (arith, h))))

-- no sample begins so late that 64 bits don't hold it
start_bound : (runs : List SttsEntry) (k : ℕ) → All (λ r. r.sample_delta < 2 ^ 32) runs → 1 ≤ k → k < 2 ^ 32
    → start_of (durations runs) k ≤ 2 ^ 64 - 1
start_bound runs k small some few =
    let xs = take (k - 1) (durations runs) in
    let most : sum xs ≤ length xs * (2 ^ 32 - 1) = sum_by-le (λ x. x) (2 ^ 32 - 1) xs
    (All-take (λ x. x ≤ 2 ^ 32 - 1) (k - 1) (durations runs) (short_durations runs small)) in
    rw (start_is (durations runs) k some) (omega (arith, most, length-take (k - 1) (durations runs), few))

-- So many samples, at most a count of them, are decoded at or before a time, and the one after them isn't.
pub record AreEarly (xs : List ℕ) (count time n : ℕ) : Type 0 where
  pub within : n ≤ count
  pub there : n ≤ length xs
  pub early : 1 ≤ n → start_of xs n ≤ time
  pub late : n < count → n < length xs → time < start_of xs (n + 1)

-- such a number is the last; none is where it is 0
none_by : (xs : List ℕ) (count time n : ℕ) → AreEarly xs count time n → (j : ℕ) → n < j → j < count + 1
    → decoded_by time (time_in xs j) ≡ false
unfolding time_in
none_by xs count time n s j h k =
    ⊎_elim
    (λ (inside : j < length xs + 1).
    let later : start_of xs (n + 1) ≤ start_of xs j = starts_rise xs (n + 1) j (omega arith) (omega (arith, h)) in
    let past : time < start_of xs j = omega (arith, later, s.late (omega (arith, h, k)) (omega (arith, h, inside))) in
    rw (lt-ltb 0 j (omega (arith, h)), le-leb j (length xs) (omega (arith, inside))) (lt-leb (start_of xs j) time past))
    (λ (outside : length xs + 1 ≤ j).
    rw (lt-ltb 0 j (omega (arith, h)), lt-leb j (length xs) (omega (arith, outside))) refl)
    (cases_lt j (length xs + 1))

pub no_sample_by : (xs : List ℕ) (count time : ℕ) → AreEarly xs count time 0 → (j : ℕ) → j < count + 1
    → decoded_by time (time_in xs j) ≡ false
unfolding time_in
no_sample_by xs count time s zero h = refl
no_sample_by xs count time s (suc j) h = none_by xs count time 0 s (suc j) (omega arith) h

pub last_sample_by : (xs : List ℕ) (count time n : ℕ) → AreEarly xs count time n → 1 ≤ n
    → IsLastWith (λ k. decoded_by time (time_in xs k)) (count + 1) n
unfolding time_in
last_sample_by xs count time n s some = record {
  within = omega (arith, s.within);
  own = rw (lt-ltb 0 n (omega (arith, some)), le-leb n (length xs) s.there)
      (le-leb (start_of xs n) time (s.early some));
  later = none_by xs count time n s;
}

-- the ticks before the runs rise
pub times_parted : (runs : List SttsEntry) (counts times : List ℕ) (time : ℕ) → TimesBefore runs counts times
    → IsParted (λ i. nat_le (slice_index times i) time) (length times)
times_parted runs counts times time s =
    let ticks = λ (r : SttsEntry). r.sample_count * r.sample_delta in
    record {
      earlier = λ i j h k e.
          let early : slice_index times j ≤ time = leb-true (slice_index times j) time e in
          le-leb (slice_index times i) time (omega (
            arith,
            early,
            s.times.count,
            s.times.each i (omega (arith, h, k, s.times.count)),
            s.times.each j (omega (arith, k, s.times.count)),
            sums_rise ticks runs i j h,
          ));
    }

-- where no run begins so early there is none
pub no_runs_by : (runs : List SttsEntry) (counts times : List ℕ) (count time : ℕ) → TimesBefore runs counts times
    → ArePartedAt (λ i. nat_le (slice_index times i) time) (length times) 0 → AreEarly (durations runs) count time 0
no_runs_by [] counts times count time s at = record {
  within = omega arith;
  there = omega arith;
  early = λ h. absurd (omega (arith, h));
  late = λ h k. absurd (omega (
    arith,
    k,
    length-expand (λ (r : SttsEntry). r.sample_count) (λ (r : SttsEntry). r.sample_delta) [],
  ));
}
no_runs_by (r ∷ runs) counts times count time s at =
    let first : slice_index times 0 ≡ 0 = s.times.each 0 (omega arith) in
    let late = leb-false (slice_index times 0) time (at.others 0 (omega arith) (omega (arith, s.times.count))) in
    absurd (omega (arith, first, late))

-- when sample j of run i begins, which counts from 0
start_in : (runs : List SttsEntry) (i j : ℕ) (d : SttsEntry) → i < length runs → j ≤ (get_or runs i d).sample_count
    → start_of (durations runs) (sum_by (λ r. r.sample_count) (take i runs) + j + 1)
    ≡ sum_by (λ r. r.sample_count * r.sample_delta) (take i runs) + j * (get_or runs i d).sample_delta
start_in runs i j d there inside =
    let b = sum_by (λ (r : SttsEntry). r.sample_count) (take i runs) in
    let at : b + j + 1 - 1 ≡ b + j = omega arith in
    start_is (durations runs) (b + j + 1) (omega arith)
    ∙ ap (λ n. sum (take n (durations runs))) at
    ∙ sum-take-expand (λ (r : SttsEntry). r.sample_count) (λ (r : SttsEntry). r.sample_delta) runs i j d there inside

-- where samples come after a run, a run does
run_after : (runs : List SttsEntry) (i : ℕ) (d : SttsEntry) → i < length runs
    → sum_by (λ r. r.sample_count) (take i runs) + (get_or runs i d).sample_count < sum_by (λ r. r.sample_count) runs
    → i + 1 < length runs
run_after runs i d there more =
    let samples = λ (r : SttsEntry). r.sample_count in
    ⊎_elim
    (λ (h : i + 1 < length runs). h)
    (λ (all : length runs ≤ i + 1).
    let whole : sum_by samples (take (i + 1) runs) ≡ sum_by samples runs =
    ap (sum_by samples) (take_all (i + 1) runs all) in
    absurd (omega (arith, more, whole, sum_by_more samples runs i d there)))
    (cases_lt (i + 1) (length runs))

-- the run after the last that begins so early begins later
later_run : (runs : List SttsEntry) (counts times : List ℕ) (time i : ℕ) → TimesBefore runs counts times
    → ArePartedAt (λ i. nat_le (slice_index times i) time) (length times) (i + 1) → i + 1 < length runs
    → time < sum_by (λ r. r.sample_count * r.sample_delta) (take (i + 1) runs)
later_run runs counts times time i s at there =
    let others = at.others (i + 1) (omega arith) (omega (arith, there, s.times.count)) in
    omega (arith, leb-false (slice_index times (i + 1)) time others, s.times.each (i + 1) there)

-- the samples of the runs before the last that begins so early, and so many of it
pub early_samples : (runs : List SttsEntry) (counts times : List ℕ) (count time i before within : ℕ) (d : SttsEntry)
    → TimesBefore runs counts times → count < 2 ^ 32 → time < 2 ^ 64
    → ArePartedAt (λ i. nat_le (slice_index times i) time) (length times) (i + 1)
    → before ≡ slice_index counts i → within ≤ (get_or runs i d).sample_count
    → (0 < within → (within - 1) * (get_or runs i d).sample_delta ≤ time - slice_index times i)
    → (within < (get_or runs i d).sample_count → time - slice_index times i < within * (get_or runs i d).sample_delta)
    → AreEarly (durations runs) count time (min (min (before + within) (2 ^ 32 - 1)) count)
early_samples runs counts times count time i before within d s small fits at e most early late =
    let samples = λ (r : SttsEntry). r.sample_count in
    let delta = λ (r : SttsEntry). r.sample_delta in
    let ticks = λ (r : SttsEntry). r.sample_count * r.sample_delta in
    let r = get_or runs i d in
    let there : i < length runs = omega (arith, at.within, s.times.count) in
    let b = sum_by samples (take i runs) in
    let t = sum_by ticks (take i runs) in
    let counted : slice_index counts i ≡ min (2 ^ 32 - 1) b = s.counts.each i there in
    let timed : slice_index times i ≡ min (2 ^ 64 - 1) t = s.times.each i there in
    let begun : slice_index times i ≤ time = leb-true (slice_index times i) time (at.first i (omega arith)) in
    let xs = durations runs in
    let all : length xs ≡ sum_by samples runs = length-expand samples delta runs in
    let reached : b + r.sample_count ≤ length xs = omega (arith, all, end_of_run samples runs i d there) in
    let n = min (min (before + within) (2 ^ 32 - 1)) count in
    let first : start_of xs (b + 0 + 1) ≡ t + 0 * r.sample_delta = start_in runs i 0 d there (omega arith) in
    ⊎_elim
    (λ (few : b < 2 ^ 32 - 1).
    let bound : t ≤ b * (2 ^ 32 - 1) = ticks_before runs i s.small in
    let exact : slice_index times i ≡ t = omega (arith, timed, bound, few) in
    let own : before ≡ b = omega (arith, e, counted, few) in
    let next : start_of xs (b + within + 1) ≡ t + within * r.sample_delta = start_in runs i within d there most in
    record {
      within = omega arith;
      there = omega (arith, reached, own, most);
      early = λ some. ⊎_elim
          (λ (none : within < 1). omega (
            arith,
            starts_rise xs n (b + 0 + 1) some (omega (arith, none, own)),
            first,
            exact,
            begun,
          ))
          (λ (one : 1 ≤ within).
          let last : start_of xs (b + (within - 1) + 1) ≡ t + (within - 1) * r.sample_delta =
          start_in runs i (within - 1) d there (omega (arith, most)) in
          omega (
            arith,
            starts_rise xs n (b + (within - 1) + 1) some (omega (arith, one, own)),
            last,
            exact,
            begun,
            early (omega (arith, one)),
          ))
          (cases_lt within 1);
      late = λ h k.
          let is : n + 1 ≡ b + within + 1 = omega (arith, h, own, small) in
          rw (is, next) (⊎_elim
          (λ (inside : within < r.sample_count). omega (arith, exact, begun, late inside))
          (λ (whole : r.sample_count ≤ within).
          let same : within * r.sample_delta ≡ r.sample_count * r.sample_delta =
          ap (λ m. m * r.sample_delta) (omega (arith, most, whole)) in
          omega (
            arith,
            later_run runs counts times time i s at
                (run_after runs i d there (omega (arith, k, is, whole, all))),
            sum_by_more ticks runs i d there,
            same,
          ))
          (cases_lt within r.sample_count));
    })
    (λ (many : 2 ^ 32 - 1 ≤ b). record {
      within = omega arith;
      there = omega (arith, reached, small, many);
      early = λ some. ⊎_elim
          (λ (below : t < 2 ^ 64 - 1). omega (
            arith,
            starts_rise xs n (b + 0 + 1) some (omega (arith, small, many)),
            first,
            timed,
            below,
            begun,
          ))
          (λ (above : 2 ^ 64 - 1 ≤ t). omega (
            arith,
            timed,
            above,
            begun,
            start_bound runs n s.small some (omega (arith, small)),
          ))
          (cases_lt t (2 ^ 64 - 1));
      late = λ h k. absurd (omega (arith, h, e, counted, many, small));
    })
    (cases_lt b (2 ^ 32 - 1))
