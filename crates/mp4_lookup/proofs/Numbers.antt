-- The samples of a track by their numbers: those of the movie box, then those that fragments add.
use Rattle.std.proofs.Common.{◌≡◌, ℕ, ◌+◌, ◌-◌, ◌^◌, ◌<◌, ◌≤◌, min, false, List, get_or, Option, Some, None}
use Rattle.std.proofs.Common.{refl, ap, arith, ⊎_elim}
use Rattle.std.specs.Prelude.{slice_get}
use Rattle.std.specs.Option.{SomeIff}
use Rattle.std.proofs.lemmas.Bool.{cases_lt, le-leb, le-ltb, lt-leb, lt-ltb}
use Rattle.mp4_boxes.specs.declared.stbl.StblBox.{StblBox}
use Rattle.mp4_table.specs.Runs.{durations}
use Rattle.mp4_boxes.specs.Stbl.{sample_count}
use Rattle.mp4_fragments.specs.ByTime.{decoded_by, run_sample_by, run_sample_time}
use Rattle.mp4_fragments.specs.RunSamples.{PlacedRun, all_run_samples}
use Rattle.mp4_fragments.specs.Sync.{sync_at}
use Rattle.mp4_fragments.specs.declared.run_samples.RunSample.{RunSample}
use Rattle.mp4_search.specs.Partition.{AnswersLast, IsLastWith}
use Rattle.mp4_lookup.specs.ByTime.{decode_time, duration_of, is_sync_in_table, is_sync_sample, sample_by, time_in}
use Rattle.mp4_lookup.specs.ByTime.{end_time, last_number, time_range}
use Rattle.mp4_lookup.proofs.Seeking.{last_of_added, last_of_movie}

pub movie_time : (t : StblBox) (runs : List PlacedRun) (k : ℕ) → k ≤ sample_count t
    → decode_time t runs k ≡ time_in (durations t.stts.entries) k
unfolding decode_time
movie_time t runs k h = rw (le-leb k (sample_count t) h) refl

pub added_time : (t : StblBox) (runs : List PlacedRun) (k : ℕ) → sample_count t < k
    → decode_time t runs k ≡ run_sample_time runs (k - sample_count t - 1)
unfolding decode_time
added_time t runs k h = rw (lt-leb k (sample_count t) h) refl

movie_sync : (t : StblBox) (runs : List PlacedRun) (k : ℕ) → k ≤ sample_count t
    → is_sync_sample t runs k ≡ is_sync_in_table t.stss k
unfolding is_sync_sample
movie_sync t runs k h = rw (le-leb k (sample_count t) h) refl

added_sync : (t : StblBox) (runs : List PlacedRun) (k : ℕ) → sample_count t < k
    → is_sync_sample t runs k ≡ sync_at runs (k - sample_count t - 1)
unfolding is_sync_sample
added_sync t runs k h = rw (lt-leb k (sample_count t) h) refl

-- the last by time

pub added_by : (t : StblBox) (runs : List PlacedRun) (time n : ℕ) → sample_count t < 2 ^ 32
    → IsLastWith (run_sample_by runs time) (2 ^ 32 - 1 - sample_count t) n
    → IsLastWith (sample_by t runs time) (2 ^ 32) (sample_count t + 1 + n)
added_by t runs time n small last =
    let count = sample_count t in
    let whole : count + 1 + (2 ^ 32 - 1 - count) ≡ 2 ^ 32 = omega (arith, small) in
    rw whole at (last_of_added (sample_by t runs time) (run_sample_by runs time) count (2 ^ 32 - 1 - count) n
    (λ j h. ap (decoded_by time) (added_time t runs j h)) last)

pub movie_by : (t : StblBox) (runs : List PlacedRun) (time : ℕ) (last : Option ℕ) → sample_count t < 2 ^ 32
    → ((n : ℕ) → n < 2 ^ 32 - 1 - sample_count t → run_sample_by runs time n ≡ false)
    → AnswersLast (λ k. decoded_by time (time_in (durations t.stts.entries) k)) (sample_count t + 1) last
    → AnswersLast (sample_by t runs time) (2 ^ 32) last
movie_by t runs time last small none s =
    let count = sample_count t in
    let whole : count + 1 + (2 ^ 32 - 1 - count) ≡ 2 ^ 32 = omega (arith, small) in
    rw whole at (last_of_movie (sample_by t runs time) (λ k. decoded_by time (time_in (durations t.stts.entries) k))
    (run_sample_by runs time) count (2 ^ 32 - 1 - count) last
    (λ j h. ap (decoded_by time) (movie_time t runs j h)) (λ j h. ap (decoded_by time) (added_time t runs j h)) none s)

-- the last sync sample

pub added_sync_upto : (t : StblBox) (runs : List PlacedRun) (k n : ℕ) → sample_count t < k
    → IsLastWith (sync_at runs) (k - sample_count t - 1 + 1) n
    → IsLastWith (is_sync_sample t runs) (k + 1) (sample_count t + 1 + n)
added_sync_upto t runs k n past last =
    let count = sample_count t in
    let whole : count + 1 + (k - count - 1 + 1) ≡ k + 1 = omega (arith, past) in
    rw whole at (last_of_added (is_sync_sample t runs) (sync_at runs) count (k - count - 1 + 1) n
    (λ j h. added_sync t runs j h) last)

pub movie_sync_upto : (t : StblBox) (runs : List PlacedRun) (k : ℕ) (last : Option ℕ)
    → ((n : ℕ) → sample_count t + 1 + n ≤ k → sync_at runs n ≡ false)
    → AnswersLast (is_sync_in_table t.stss) (min k (sample_count t) + 1) last
    → AnswersLast (is_sync_sample t runs) (k + 1) last
movie_sync_upto t runs k last none s =
    let count = sample_count t in
    let has = is_sync_sample t runs in
    ⊎_elim
    (λ (past : count < k).
    let whole : count + 1 + (k - count) ≡ k + 1 = omega (arith, past) in
    let least : min k count ≡ count = omega (arith, past) in
    rw whole at (last_of_movie has (is_sync_in_table t.stss) (sync_at runs) count (k - count) last
    (λ j h. movie_sync t runs j h) (λ j h. added_sync t runs j h) (λ n h. none n (omega (arith, h, past)))
    (rw least at s)))
    (λ (inside : k ≤ count).
    let whole : k + 1 + 0 ≡ k + 1 = omega arith in
    let least : min k count ≡ k = omega (arith, inside) in
    rw whole at (last_of_movie has (is_sync_in_table t.stss) (λ n. has (k + 1 + n)) k 0 last
    (λ j h. movie_sync t runs j (omega (arith, h, inside)))
    (λ j h. let at : j ≡ k + 1 + (j - k - 1) = omega (arith, h) in ap has at)
    (λ n h. absurd (omega (arith, h))) (rw least at s)))
    (cases_lt count k)

-- how long they last

pub movie_duration : (t : StblBox) (runs : List PlacedRun) (k : ℕ) → k ≤ sample_count t
    → duration_of t runs k ≡ get_or (durations t.stts.entries) (k - 1) 0
unfolding duration_of
movie_duration t runs k h = rw (le-leb k (sample_count t) h) refl

pub added_timing : (t : StblBox) (runs : List PlacedRun) (k : ℕ) (m : RunSample) → sample_count t < k
    → slice_get (all_run_samples runs) (k - sample_count t - 1) ≡ Some m
    → (decode_time t runs k ≡ m.at.time) × (duration_of t runs k ≡ m.duration)
unfolding decode_time duration_of run_sample_time
added_timing t runs k m h e = rw (lt-leb k (sample_count t) h, e) (refl, refl)

pub no_timing : (t : StblBox) (runs : List PlacedRun) (k : ℕ) → sample_count t < k
    → slice_get (all_run_samples runs) (k - sample_count t - 1) ≡ None → decode_time t runs k ≡ None
unfolding decode_time run_sample_time
no_timing t runs k h e = rw (lt-leb k (sample_count t) h, e) refl

-- when they end

pub no_end : (t : StblBox) (runs : List PlacedRun) (k : ℕ) → decode_time t runs k ≡ None → end_time t runs k ≡ None
unfolding end_time
no_end t runs k e = rw e refl

pub ended : (t : StblBox) (runs : List PlacedRun) (k begin duration : ℕ) (end : Option ℕ)
    → decode_time t runs k ≡ Some begin
    → duration ≡ duration_of t runs k → SomeIff end (begin + duration < 2 ^ 64) (begin + duration)
    → end ≡ end_time t runs k
unfolding end_time
ended t runs k begin duration None e d s =
    rw (e, ← d, le-ltb (begin + duration) (2 ^ 64) (omega (arith, s))) refl
ended t runs k begin duration (Some x) e d s =
    rw (e, ← d, lt-ltb (begin + duration) (2 ^ 64) s.0) (ap (λ n. Some n) s.1)

-- the first and the last

pub range_is : (t : StblBox) (runs : List PlacedRun) (start end : ℕ) → Some start ≡ decode_time t runs 1
    → Some end ≡ end_time t runs (last_number t runs) → Some (record { start = start; end = end }) ≡ time_range t runs
unfolding time_range
range_is t runs start end s e = rw (← s, ← e) refl

pub no_start : (t : StblBox) (runs : List PlacedRun) → None ≡ decode_time t runs 1 → None ≡ time_range t runs
unfolding time_range
no_start t runs s = rw (← s) refl

pub no_range : (t : StblBox) (runs : List PlacedRun) (start : ℕ) → Some start ≡ decode_time t runs 1
    → None ≡ end_time t runs (last_number t runs) → None ≡ time_range t runs
unfolding time_range
no_range t runs start s e = rw (← s, ← e) refl
