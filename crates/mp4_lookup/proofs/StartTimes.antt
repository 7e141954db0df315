-- When a sample that is located is decoded, how long it lasts, and whether it is a sync sample.
use Rattle.std.proofs.Common.{◌≡◌, ℕ, ◌-◌, ◌<◌, ◌≤◌, Bool, true, false, List, length, get_or}
use Rattle.std.proofs.Common.{zero, suc, Option, Some, None, Result, Ok, Err, refl, sym, ap, ◌∙◌, arith, ⊎_elim}
use Rattle.std.specs.Prelude.{nat_le, pos, slice_get, ◌==◌}
use Rattle.std.specs.Option.{option_and_then}
use Rattle.std.proofs.lemmas.Bool.{cases_lt, le-leb, lt-leb, lt-ltb, ne_eqb, or_from, or_right}
use Rattle.std.proofs.lemmas.Option.{slice_get-get_or, slice_get_past}
use Rattle.mp4_codec.specs.Cause.{Cause, ◌>>=◌}
use Rattle.mp4_table.specs.declared.stts.SttsEntry.{SttsEntry}
use Rattle.mp4_table.specs.Runs.{durations, rendering_offsets}
use Rattle.mp4_table.specs.Starts.{start_of}
use Rattle.mp4_boxes.specs.declared.stbl.StblBox.{StblBox}
use Rattle.mp4_boxes.specs.declared.trak.TrakBox.{TrakBox}
use Rattle.mp4_moof.specs.declared.traf.TrafBox.{TrafBox}
use Rattle.mp4_boxes.specs.Stbl.{sample_count}
use Rattle.mp4_fragments.specs.ByTime.{run_sample_time}
use Rattle.mp4_fragments.specs.RunSamples.{PlacedRun, all_run_samples}
use Rattle.mp4_fragments.specs.Sync.{is_sync_run_sample, sync_at}
use Rattle.mp4_fragments.specs.declared.run_samples.RunSample.{RunSample}
use Rattle.mp4_samples.specs.Tables.{ctts_runs, is_sync_at, tables_of}
use Rattle.mp4_samples.specs.declared.sample.Place.{Place}
use Rattle.mp4_lookup.specs.ByTime.{decode_time, duration_of, run_sample_duration, time_in}
use Rattle.mp4_lookup.specs.ByTime.{is_sync_in_table, is_sync_sample}
use Rattle.mp4_lookup.specs.Rule.{entry_for, if_there, rule, located_at, time_at}
use Rattle.mp4_lookup.specs.Tracks.{answer_at, begins_at, is_of_movie, run_sample_place}

abbrev as_time : ℕ → ℕ → Result (ℕ × ℕ) Cause
as_time duration start = Ok (duration, start)

time_in_answer : Result (ℕ × ℕ) Cause → ℕ × ℕ
time_in_answer (Ok x) = x
time_in_answer (Err c) = (0, 0)

same_time : (d s a b : ℕ) → as_time a b ≡ as_time d s → (a ≡ d) × (b ≡ s)
unfolding time_in_answer
same_time d s a b e = (ap (λ r. (time_in_answer r).0) e, ap (λ r. (time_in_answer r).1) e)

-- a time that stts gives
pub known_time : (runs : List SttsEntry) (track k d s : ℕ) → 1 ≤ k → time_at runs track k ≡ Ok (d, s)
    → (time_in (durations runs) k ≡ Some s) × (get_or (durations runs) (k - 1) 0 ≡ d)
unfolding time_at time_in
known_time runs track k d s some e =
    let xs = durations runs in
    ⊎_elim
    (λ (inside : k - 1 < length xs).
    let is : as_time (get_or xs (k - 1) 0) (start_of xs k) ≡ as_time d s =
    rw (slice_get-get_or xs (k - 1) 0 inside) at e in
    let same = same_time d s (get_or xs (k - 1) 0) (start_of xs k) is in (
      rw (lt-ltb 0 k (omega (arith, some)), le-leb k (length xs) (omega (arith, inside))) (ap (λ n. Some n) same.1),
      same.0,
    ))
    (λ (past : length xs ≤ k - 1).
    let wrong = rw (slice_get_past xs (k - 1) past) at e in absurd cc)
    (cases_lt (k - 1) (length xs))

-- and one that it doesn't give
pub unknown_time : (runs : List SttsEntry) (track k : ℕ) (c : Cause) → 1 ≤ k → time_at runs track k ≡ Err c
    → time_in (durations runs) k ≡ None
unfolding time_at time_in
unknown_time runs track k c some e =
    let xs = durations runs in
    ⊎_elim
    (λ (inside : k - 1 < length xs).
    let wrong = rw (slice_get-get_or xs (k - 1) 0 inside) at e in absurd cc)
    (λ (past : length xs ≤ k - 1).
    rw (lt-ltb 0 k (omega (arith, some)), lt-leb k (length xs) (omega (arith, some, past))) refl)
    (cases_lt (k - 1) (length xs))

place_in : Place → Result (Option Place) Cause → Place
place_in d (Ok (Some p)) = p
place_in d (Ok None) = d
place_in d (Err c) = d

abbrev as_place : Place → Result (Option Place) Cause
as_place p = Ok (Some p)

same_place : (p q : Place) → as_place p ≡ as_place q → p ≡ q
unfolding place_in
same_place p q e = ap (place_in p) e

-- what a step by step answer says of its time
placed_time : (located : Result (Option (ℕ × ℕ)) Cause) (time : Result (ℕ × ℕ) Cause) (make : ℕ × ℕ → ℕ × ℕ → Place)
    (sync : Bool) (p : Place)
    → ((f t : ℕ × ℕ) → ((make f t).duration ≡ t.0) × ((make f t).start_time ≡ t.1) × ((make f t).is_sync ≡ sync))
    → (located >>= (λ located. if_there located (λ found. time >>= (λ time. Ok (Some (make found time))))))
    ≡ Ok (Some p)
    → (time ≡ Ok (p.duration, p.start_time)) × (sync ≡ p.is_sync)
placed_time (Err c) time make sync p made e = absurd cc
placed_time (Ok None) time make sync p made e = absurd cc
placed_time (Ok (Some f)) (Err c) make sync p made e = absurd cc
placed_time (Ok (Some f)) (Ok t) make sync p made e =
    let is : make f t ≡ p = same_place (make f t) p e in
    let parts = made f t in
    let duration : t.0 ≡ p.duration = sym parts.0 ∙ ap (λ (q : Place). q.duration) is in
    let start : t.1 ≡ p.start_time = sym parts.1 ∙ ap (λ (q : Place). q.start_time) is in (
      ap (λ (d : ℕ). as_time d t.1) duration ∙ ap (λ (s : ℕ). as_time p.duration s) start,
      sym parts.2 ∙ ap (λ (q : Place). q.is_sync) is,
    )

-- by the rule
rule_time : (t : StblBox) (track k : ℕ) (p : Place) → rule t track k ≡ Ok (Some p)
    → (1 ≤ k) × (time_at t.stts.entries track k ≡ Ok (p.duration, p.start_time)) × (is_sync_at t.stss k ≡ p.is_sync)
unfolding rule located_at entry_for
rule_time t track zero p e = absurd cc
rule_time t track (suc k) p e =
    let make : ℕ × ℕ → ℕ × ℕ → Place = λ found time. record {
      offset = found.0;
      size = found.1;
      start_time = time.1;
      duration = time.0;
      rendering_offset = get_or (rendering_offsets (ctts_runs t.ctts)) (suc k - 1) (pos 0);
      is_sync = is_sync_at t.stss (suc k);
    } in
    let told = placed_time (located_at t (suc k)) (time_at t.stts.entries track (suc k)) make
    (is_sync_at t.stss (suc k)) p
    (λ f t. (refl, refl, refl)) e in
    (omega arith, told.0, told.1)

-- by what begins at a place and a time
begun_time : (place time : Option ℕ) (m : RunSample) (p : Place) → begins_at place time m ≡ Ok (Some p)
    → (time ≡ Some p.start_time) × (m.duration ≡ p.duration) × (m.is_sync ≡ p.is_sync)
begun_time None time m p e = absurd cc
begun_time (Some place) None m p e = absurd cc
begun_time (Some place) (Some time) m p e =
    let make : Place = record {
      offset = place;
      size = m.size;
      start_time = time;
      duration = m.duration;
      rendering_offset = m.rendering_offset;
      is_sync = m.is_sync;
    } in
    let is : make ≡ p = same_place make p e in (
      ap (λ (q : Place). Some q.start_time) is,
      ap (λ (q : Place). q.duration) is,
      ap (λ (q : Place). q.is_sync) is,
    )

run_sample_times : (run_sample : Option RunSample) (p : Place) → run_sample_place run_sample ≡ Ok (Some p)
    → (option_and_then (λ m. m.at.time) run_sample ≡ Some p.start_time) × (run_sample_duration run_sample ≡ p.duration)
    × (is_sync_run_sample run_sample ≡ p.is_sync)
run_sample_times None p e = absurd cc
run_sample_times (Some m) p e = begun_time m.at.place m.at.time m p e

-- at the number of a sample that is located
pub times_of_place : (trak : TrakBox) (trafs : List TrafBox) (runs : List PlacedRun) (k : ℕ) (p : Place)
    → (length trafs ≡ 0 → k ≤ sample_count (tables_of trak)) → answer_at trak trafs runs k ≡ Ok (Some p)
    → (decode_time (tables_of trak) runs k ≡ Some p.start_time) × (duration_of (tables_of trak) runs k ≡ p.duration)
    × (is_sync_sample (tables_of trak) runs k ≡ p.is_sync)
unfolding answer_at decode_time duration_of is_sync_sample is_sync_in_table run_sample_time sync_at
times_of_place trak trafs runs k p counted e =
    let t = tables_of trak in
    let count = sample_count t in
    ⊎_elim
    (λ (past : count < k).
    let added : is_of_movie trak trafs k ≡ false = or_from (length trafs == 0) (nat_le k count)
    (ne_eqb (length trafs) 0 (λ none. omega (arith, past, counted none))) (lt-leb k count past) in
    rw (lt-leb k count past) (run_sample_times (slice_get (all_run_samples runs) (k - count - 1)) p (rw added at e)))
    (λ (inside : k ≤ count).
    let of_movie : is_of_movie trak trafs k ≡ true =
    or_right (length trafs == 0) (nat_le k count) (le-leb k count inside) in
    let told = rule_time t trak.tkhd.track_id k p (rw of_movie at e) in
    let known = known_time t.stts.entries trak.tkhd.track_id k p.duration p.start_time told.0 told.1 in
    rw (le-leb k count inside, lt-ltb 0 k (omega (arith, told.0))) (known.0, known.1, told.2))
    (cases_lt count k)

pub time_of_none : (xs : List ℕ) → time_in xs 0 ≡ None
unfolding time_in
time_of_none xs = refl
