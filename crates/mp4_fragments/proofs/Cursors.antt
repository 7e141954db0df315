-- A walk over the samples of runs.
use Rattle.std.proofs.Common.{◌≡◌, ℕ, ◌+◌, ◌-◌, ◌^◌, ◌<◌, ◌≤◌, List, [], ◌∷◌, length, get_or, take, Option, Some, None}
use Rattle.std.proofs.Common.{refl, sym, ap, ◌∙◌, arith}
use Rattle.std.specs.Prelude.{IfNone, IfSome, slice_get, slice_index}
use Rattle.std.specs.List.{sum_by}
use Rattle.std.proofs.lemmas.Bool.{le-ltb, lt-ltb}
use Rattle.std.proofs.lemmas.List.Sums.{sum_by_more}
use Rattle.std.proofs.lemmas.Option.{slice_get-get_or, same_Some}
use Rattle.mp4_fragments.specs.Numbers.{plus}
use Rattle.mp4_moof.specs.declared.trun.TrunBox.{TrunBox}
use Rattle.mp4_fragments.specs.RunSamples.{PlacedRun, all_run_samples, at_run_sample, run_sample_of, run_count}
use Rattle.mp4_fragments.specs.RunSamples.{values_of}
use Rattle.mp4_fragments.specs.Cursor.{IsIn, IsInRuns, IsRunEnd}
use Rattle.mp4_fragments.specs.declared.cursor.RunCursor.{RunCursor}
use Rattle.mp4_fragments.specs.declared.cursor.RunEnd.{RunEnd}
use Rattle.mp4_fragments.specs.declared.defaults.SampleDefaults.{SampleDefaults}
use Rattle.mp4_fragments.specs.declared.run_samples.RunSample.{RunSample}
use Rattle.mp4_fragments.specs.declared.run_samples.SampleValues.{SampleValues}
use Rattle.mp4_search.specs.Search.{IsLastAtMost}
use Rattle.mp4_search.proofs.SumLaws.{before_found, past_found}
use Rattle.std.specs.Option.{option_map}
use Rattle.mp4_fragments.specs.Index.{Find, Indexes, IsOnly, placed_at, run_sample_in}
use Rattle.mp4_fragments.specs.Entry.{Entry}
use Rattle.mp4_fragments.specs.declared.index.RunIndex.{RunIndex}
use Rattle.mp4_fragments.proofs.Finding.{entry_of, length-entries, right_by, slice_get-all_run_samples}
use Rattle.mp4_fragments.proofs.Finding.{run_sample_found, slice_get-all_run_samples_past}
use Rattle.mp4_fragments.proofs.ListedValues.{sum_of_first-more}
use Rattle.mp4_fragments.proofs.Places.{at_run_sample-on}

-- the run that a cursor is in
abbrev own : RunCursor → PlacedRun
own c = record { at = c.at; run = c.run.now; defaults = c.defaults }

abbrev run_in : List PlacedRun → RunCursor → PlacedRun
run_in runs c = get_or runs c.entry (own c)

is_in : (runs : List PlacedRun) (c : RunCursor) → IsInRuns runs c → IsIn (run_in runs c) c
is_in runs c at = at.run (run_in runs c) (slice_get-get_or runs c.entry (own c) at.within)

same_run : (p : PlacedRun) (c : RunCursor) → IsIn p c → p ≡ record { at = p.at; run = c.run.now; defaults = c.defaults }
same_run p c at = ap (λ r. record { at = p.at; run = r; defaults = p.defaults }) at.run
    ∙ ap (λ d. record { at = p.at; run = c.run.now; defaults = d }) at.defaults

-- the next sample, if the run has one
next_is : (runs : List PlacedRun) (c : RunCursor) → IsInRuns runs c → c.passed < c.run.now.sample_count
    → slice_get (all_run_samples runs) c.number ≡ Some (run_sample_of (run_in runs c) c.passed)
next_is runs c at before =
    let counted = at.counted in
    let passed : c.number - sum_by run_count (take c.entry runs) ≡ c.passed = omega (arith, counted) in
    let inside : c.passed < (run_in runs c).run.sample_count = rw (is_in runs c at).run before in
    slice_get-all_run_samples runs c.number c.entry (sum_by run_count (take c.entry runs)) (own c) at.within refl
    (omega (arith, counted)) (rw passed inside)
    ∙ ap (λ j. Some (run_sample_of (run_in runs c) j)) passed

pub run_sample_is : (runs : List PlacedRun) (c : RunCursor) (m : RunSample) → IsInRuns runs c
    → c.passed < c.run.now.sample_count
    → ((p : PlacedRun) → IsIn p c
    → m ≡ run_sample_of (record { at = p.at; run = c.run.now; defaults = c.defaults }) c.passed)
    → slice_get (all_run_samples runs) c.number ≡ Some m
run_sample_is runs c m at before is =
    let p = run_in runs c in
    next_is runs c at before
    ∙ ap (λ q. Some (run_sample_of q c.passed)) (same_run p c (is_in runs c at))
    ∙ ap Some (sym (is p (is_in runs c at)))

-- the cursor after that sample
pub stepped : (runs : List PlacedRun) (old new : RunCursor) (m : RunSample) → IsInRuns runs old
    → old.passed < old.run.now.sample_count → slice_get (all_run_samples runs) old.number ≡ Some m
    → new.run.now ≡ old.run.now → new.defaults ≡ old.defaults → new.entry ≡ old.entry
    → new.passed ≡ old.passed + 1 → new.number ≡ old.number + 1
    → new.at ≡ record { place = plus old.at.place m.size; time = plus old.at.time m.duration }
    → IsInRuns runs new
unfolding run_sample_of
stepped runs old new m at before is run defaults entry passed number on =
    let q = run_in runs old in
    let here = is_in runs old at in
    let run_sample : m ≡ run_sample_of q old.passed = same_Some _ _ (sym is ∙ next_is runs old at before) in
    let more : new.at ≡ at_run_sample q.run q.defaults q.at (old.passed + 1) = on
    ∙ at_run_sample-on q.run q.defaults q.at old.at old.passed (old.passed + 1) m.size m.duration
    (rw run_sample (sym (sum_of_first-more old.passed q.run.sample_sizes q.defaults.size)))
    (rw run_sample (sym (sum_of_first-more old.passed q.run.sample_durations q.defaults.duration))) here.begins in
    record {
      within = rw entry at.within;
      inside = rw (run, passed) (omega (arith, before));
      counted = rw (entry, passed, number) (omega (arith, at.counted));
      run = λ p found.
          let there : slice_get runs old.entry ≡ Some p = rw entry at found in
          let same : p ≡ q = same_Some _ _ (sym there ∙ slice_get-get_or runs old.entry (own old) at.within) in
          rw same (record {
            run = here.run ∙ sym run;
            defaults = here.defaults ∙ sym defaults;
            begins = rw passed more;
          });
    }

-- what follows of a cursor, if there is one
pub of_cursor : (c : Option RunCursor) (P Q : RunCursor → Type 0) → IfSome c P
    → ((x : RunCursor) → P x → Q x) → IfSome c Q
of_cursor None P Q p f = tt
of_cursor (Some x) P Q p f = f x p

-- what follows where there is none
pub of_none : (c : Option RunCursor) (P Q : Type 0) → IfNone c P → (P → Q) → IfNone c Q
of_none None P Q p f = f p
of_none (Some x) P Q p f = tt

-- the run of an entry that was read out of a copy of the entries
pub placed_by : (find : Find) (es : List Entry) (runs : List PlacedRun) (index : RunIndex) (i : ℕ) (entry : Entry)
    (d : PlacedRun) → Indexes find runs index → es ≡ index.entries → entry ≡ get_or es i entry → i < length runs
    → placed_at find entry ≡ Some (get_or runs i d)
placed_by find es runs index i entry d s e1 is h =
    ap (placed_at find) (is ∙ ap (λ (xs : List Entry). get_or xs i entry) e1)
    ∙ entry_of find runs index i entry d s h

-- what is known of a cursor before sample j of an entry's run
abbrev pub IsBefore : Find → Entry → ℕ → ℕ → ℕ → RunCursor → Type 0
IsBefore find entry i j number c = (c.entry ≡ i) × (c.passed ≡ j) × (c.number ≡ number)
    × (j < c.run.now.sample_count) × (j < 2 ^ 32 - 1)
    × ((p : PlacedRun) → placed_at find entry ≡ Some p → IsIn p c)

-- such a cursor, by the samples of the runs before
in_runs : (find : Find) (es : List Entry) (runs : List PlacedRun) (index : RunIndex) (i j number : ℕ)
    (entry : Entry) (c : RunCursor) → Indexes find runs index → es ≡ index.entries → entry ≡ get_or es i entry
    → i < length runs → number ≡ sum_by run_count (take i runs) + j → IsBefore find entry i j number c
    → IsInRuns runs c × (c.number ≡ number) × (c.passed < c.run.now.sample_count) × (c.passed < 2 ^ 32 - 1)
in_runs find es runs index i j number entry c s e1 is within counted at =
    let passed : c.passed ≡ j = at.1 in
    let inside : c.passed < c.run.now.sample_count = rw passed at.3 in
    let small : c.passed < 2 ^ 32 - 1 = rw passed at.4 in (
      record {
        within = rw at.0 within;
        inside = omega (arith, inside);
        counted = rw (at.0, passed) (at.2 ∙ counted);
        run = λ p found.
            let there : slice_get runs i ≡ Some p = rw at.0 at found in
            let same : get_or runs i (own c) ≡ p =
            same_Some _ _ (sym (slice_get-get_or runs i (own c) within) ∙ there) in
            at.5 p (placed_by find es runs index i entry (own c) s e1 is within ∙ ap Some same);
      },
      at.2,
      inside,
      small,
    )

-- a cursor before the sample with a number that was searched
pub found_at : (find : Find) (es : List Entry) (runs : List PlacedRun) (index : RunIndex) (key i number : ℕ)
    (entry : Entry) (c : Option RunCursor) → key < 2 ^ 32 - 1 → Indexes find runs index → es ≡ index.entries
    → entry ≡ get_or es i entry → IsLastAtMost index.counts key i → number ≡ slice_index index.counts i
    → IfSome c (IsBefore find entry i (key - number) key)
    → IfSome c (λ x. IsInRuns runs x × (x.number ≡ key) × (x.passed < x.run.now.sample_count)
    × (x.passed < 2 ^ 32 - 1))
found_at find es runs index key i number entry c limit s e1 is at e2 before =
    let found = before_found run_count runs index.counts key i s.counts limit at in
    of_cursor c _ _ before (λ x.
    in_runs find es runs index i (key - number) key entry x s e1 is found.0 (omega (arith, e2, found.1, found.2)))

-- none is found past the last sample
pub found_none : (find : Find) (es : List Entry) (runs : List PlacedRun) (index : RunIndex) (key i number : ℕ)
    (entry : Entry) (c : Option RunCursor) → key < 2 ^ 32 - 1 → Indexes find runs index → es ≡ index.entries
    → entry ≡ get_or es i entry → IsLastAtMost index.counts key i → number ≡ slice_index index.counts i
    → IfNone c ((p : PlacedRun) → placed_at find entry ≡ Some p → p.run.sample_count ≤ key - number)
    → IfNone c (slice_get (all_run_samples runs) key ≡ None)
found_none find es [] index key i number entry c limit s e1 is at e2 none =
    absurd (omega (arith, at.within, s.counts.count))
found_none find es (d ∷ runs) index key i number entry c limit s e1 is at e2 none =
    let all = d ∷ runs in
    let found = before_found run_count all index.counts key i s.counts limit at in
    of_none c _ _ none (λ few.
    let past = past_found run_count all index.counts key i d s.counts limit at
    (rw (← e2) (few (get_or all i d) (placed_by find es all index i entry d s e1 is found.0))) in
    slice_get-all_run_samples_past all key (i + 1) past.0 past.1)

-- the end of the run that a cursor is after
pub run_end_of : (runs : List PlacedRun) (c : RunCursor) (e : RunEnd) → IsInRuns runs c
    → c.run.now.sample_count ≤ c.passed → e.entry ≡ c.entry → e.number ≡ c.number → IsRunEnd runs e
run_end_of runs c e at passed entry number =
    let here : run_count (run_in runs c) ≡ c.run.now.sample_count = ap (λ r. r.sample_count) (is_in runs c at).run in
    record {
      within = rw entry at.within;
      counted = rw (entry, number) (omega (
        arith,
        passed,
        at.counted,
        at.inside,
        here,
        sum_by_more run_count runs c.entry (own c) at.within,
      ));
    }

-- a sample of equal parts
sample_is : (m : RunSample) (p : PlacedRun) (v : SampleValues) → m.at ≡ at_run_sample p.run p.defaults p.at 0
    → v ≡ values_of p 0 → m.size ≡ v.size → m.duration ≡ v.duration → m.rendering_offset ≡ v.rendering_offset
    → m.is_sync ≡ v.is_sync → m ≡ run_sample_of p 0
unfolding run_sample_of values_of
sample_is m p v at is size duration shown sync =
    let with_values : SampleValues → RunSample = λ w. record {
      at = at_run_sample p.run p.defaults p.at 0;
      size = w.size;
      duration = w.duration;
      rendering_offset = w.rendering_offset;
      is_sync = w.is_sync;
    } in
    let same : m ≡ with_values v = rw (← at, ← size, ← duration, ← shown, ← sync) refl in
    same ∙ ap with_values is

-- a cursor before the first sample of the next run
pub next_at : (find : Find) (es : List Entry) (runs : List PlacedRun) (index : RunIndex) (entry : Entry)
    (e : RunEnd) (c : Option RunCursor) → Indexes find runs index → IsRunEnd runs e → es ≡ index.entries
    → entry ≡ get_or es (e.entry + 1) entry → e.entry + 1 < length runs
    → IfSome c (IsBefore find entry (e.entry + 1) 0 e.number)
    → IfSome c (λ x. IsInRuns runs x × (x.number ≡ e.number) × (x.passed < x.run.now.sample_count)
    × (x.passed < 2 ^ 32 - 1))
next_at find es runs index entry e c s at e1 is within before =
    of_cursor c _ _ before (λ x.
    in_runs find es runs index (e.entry + 1) 0 e.number entry x s e1 is within (omega (arith, at.counted)))

-- where the run of an entry begins
placed_begins : (find : Find) (e : Entry) (p : PlacedRun) → placed_at find e ≡ Some p → p.at ≡ e.at
unfolding placed_at
placed_begins find e p =
    elim (find e.traf e.run) as
    (λ x. option_map (λ x. record { at = e.at; run = x.0; defaults = x.1 }) x ≡ Some p → p.at ≡ e.at) [
      | None ↦ λ none. absurd cc
      | Some x ↦ λ there. ap (λ (q : PlacedRun). q.at) (sym (same_Some _ _ there))
    ]

-- the one sample of a run, as its entry has it
pub only_sample : (find : Find) (entry : Entry) (v : SampleValues) (m : RunSample) (p : PlacedRun) (j : ℕ)
    → placed_at find entry ≡ Some p → IsOnly p v → j ≡ 0
    → ((run : TrunBox) (defaults : SampleDefaults) → m.at ≡ at_run_sample run defaults entry.at 0) → m.size ≡ v.size
    → m.duration ≡ v.duration → m.rendering_offset ≡ v.rendering_offset → m.is_sync ≡ v.is_sync
    → Some m ≡ run_sample_in j p
only_sample find entry v m p j there only zero begins e2 e3 e4 e5 =
    let start : m.at ≡ at_run_sample p.run p.defaults p.at 0 =
    rw (placed_begins find entry p there) (begins p.run p.defaults) in
    rw zero (rw (lt-ltb 0 (run_count p) (omega (arith, only.0))) (ap Some (sample_is m p v start only.1 e2 e3 e4 e5)))

-- it has no other
pub no_other : (p : PlacedRun) (v : SampleValues) (j : ℕ) → IsOnly p v → 1 ≤ j → None ≡ run_sample_in j p
no_other p v j only h = rw (le-ltb j (run_count p) (omega (arith, only.0, h))) refl

-- what a run that was found has at a number, by what its entry says
pub found_by : (find : Find) (es : List Entry) (runs : List PlacedRun) (index : RunIndex) (key i number : ℕ)
    (entry : Entry) (answer : Option RunSample) → key < 2 ^ 32 - 1 → Indexes find runs index → es ≡ index.entries
    → entry ≡ get_or es i entry → IsLastAtMost index.counts key i → number ≡ slice_index index.counts i
    → ((p : PlacedRun) → placed_at find entry ≡ Some p → answer ≡ run_sample_in (key - number) p)
    → answer ≡ slice_get (all_run_samples runs) key
found_by find es [] index key i number entry answer limit s e1 is at e2 answered =
    absurd (omega (arith, at.within, s.counts.count))
found_by find es (d ∷ rest) index key i number entry answer limit s e1 is at e2 answered =
    let runs = d ∷ rest in
    let found = before_found run_count runs index.counts key i s.counts limit at in
    let there = placed_by find es runs index i entry d s e1 is found.0 in
    answered (get_or runs i d) there ∙ rw e2 (run_sample_found runs index.counts key i d limit s.counts at)

-- the one sample of the run after the end of another, as its entry has it
only_of : (find : Find) (es : List Entry) (runs : List PlacedRun) (index : RunIndex) (entry : Entry) (e : RunEnd)
    (v : SampleValues) (d : PlacedRun) → Indexes find runs index → es ≡ index.entries
    → entry ≡ get_or es (e.entry + 1) entry → e.entry + 1 < length runs → entry.only ≡ Some v
    → (placed_at find entry ≡ Some (get_or runs (e.entry + 1) d)) × IsOnly (get_or runs (e.entry + 1) d) v
only_of find es runs index entry e v d s e1 is within only =
    let there = placed_by find es runs index (e.entry + 1) entry d s e1 is within in
    let right = right_by find es runs index (e.entry + 1) entry s e1 is
    (omega (arith, length-entries find runs index s, s.counts.count)) in (
      there,
      rw only at (right.only (get_or runs (e.entry + 1) d) there),
    )

pub only_at : (find : Find) (es : List Entry) (runs : List PlacedRun) (index : RunIndex) (entry : Entry)
    (e : RunEnd) (v : SampleValues) (m : RunSample) → Indexes find runs index → IsRunEnd runs e → es ≡ index.entries
    → entry ≡ get_or es (e.entry + 1) entry → e.entry + 1 < length runs → entry.only ≡ Some v
    → ((run : TrunBox) (defaults : SampleDefaults) → m.at ≡ at_run_sample run defaults entry.at 0) → m.size ≡ v.size
    → m.duration ≡ v.duration → m.rendering_offset ≡ v.rendering_offset → m.is_sync ≡ v.is_sync
    → slice_get (all_run_samples runs) e.number ≡ Some m
unfolding run_sample_of values_of
only_at find es [] index entry e v m s at e1 is within only begins e2 e3 e4 e5 = absurd (omega (arith, within))
only_at find es (d ∷ rest) index entry e v m s at e1 is within only begins e2 e3 e4 e5 =
    let runs = d ∷ rest in
    let i = e.entry + 1 in
    let p = get_or runs i d in
    let found = only_of find es runs index entry e v d s e1 is within only in
    let none : e.number - sum_by run_count (take i runs) ≡ 0 = omega (arith, at.counted) in
    let start : m.at ≡ at_run_sample p.run p.defaults p.at 0 =
    rw (placed_begins find entry p found.0) (begins p.run p.defaults) in
    let one : m ≡ run_sample_of p 0 = sample_is m p v start found.1.1 e2 e3 e4 e5 in
    slice_get-all_run_samples runs e.number i (sum_by run_count (take i runs)) d within refl
    (omega (arith, at.counted)) (rw none (omega (arith, found.1.0)))
    ∙ ap (λ j. Some (run_sample_of p j)) none ∙ ap Some (sym one)

-- the walk after it
pub only_end : (find : Find) (es : List Entry) (runs : List PlacedRun) (index : RunIndex) (entry : Entry)
    (e next : RunEnd) (v : SampleValues) → Indexes find runs index → IsRunEnd runs e → es ≡ index.entries
    → entry ≡ get_or es (e.entry + 1) entry → e.entry + 1 < length runs → entry.only ≡ Some v
    → next.entry ≡ e.entry + 1 → next.number ≡ e.number + 1 → IsRunEnd runs next
only_end find es [] index entry e next v s at e1 is within only e2 e3 = absurd (omega (arith, within))
only_end find es (d ∷ rest) index entry e next v s at e1 is within only e2 e3 =
    let runs = d ∷ rest in
    let found = only_of find es runs index entry e v d s e1 is within only in
    record {
      within = rw e2 within;
      counted = rw (e2, e3) (omega (
        arith,
        at.counted,
        found.1.0,
        sum_by_more run_count runs (e.entry + 1) d within,
      ));
    }
