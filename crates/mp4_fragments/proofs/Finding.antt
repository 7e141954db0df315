-- Which run a sample is in.
use Rattle.std.proofs.Common.{◌≡◌, ℕ, ◌+◌, ◌-◌, ◌^◌, ◌<◌, ◌≤◌, List, [], ◌∷◌, length, get_or, take, Option, Some, None}
use Rattle.std.proofs.Common.{refl, sym, ap, subst, ◌∙◌, arith, length-append, ⊎_elim}
use Rattle.std.specs.Prelude.{slice_get, slice_index}
use Rattle.std.specs.List.{sum_by}
use Rattle.std.specs.Option.{option_and_then}
use Rattle.std.proofs.lemmas.Bool.{cases_lt, lt-ltb, le-ltb}
use Rattle.std.proofs.lemmas.List.{take_all, length-map, get_or-map}
use Rattle.std.proofs.lemmas.List.Sums.{sum_by-cons, sum_by_more_le}
use Rattle.std.proofs.lemmas.List.Concat.{get_or-flat_map}
use Rattle.std.proofs.lemmas.List.FromFn.{length-map-range_with_len, get_or-map-range_with_len}
use Rattle.std.proofs.lemmas.Option.{slice_get-get_or, slice_get_past}
use Rattle.mp4_search.specs.Search.{IsLastAtMost}
use Rattle.mp4_search.specs.Sums.{CountsBefore}
use Rattle.mp4_fragments.specs.RunSamples.{PlacedRun, all_run_samples, run_sample_of, run_samples_of, run_count}
use Rattle.mp4_fragments.specs.Index.{Find, placed_at, run_sample_in, IsRight, Indexes}
use Rattle.mp4_fragments.specs.declared.index.RunIndex.{RunIndex}
use Rattle.mp4_fragments.specs.Entry.{Entry}
use Rattle.mp4_fragments.specs.declared.run_samples.RunSample.{RunSample}
use Rattle.mp4_search.proofs.SumLaws.{before_found, past_found, none_found}

length-run_samples_of : (run : PlacedRun) → length (run_samples_of run) ≡ run_count run
unfolding run_samples_of
length-run_samples_of run = length-map-range_with_len (run_sample_of run) 0 (run_count run)

pub length-all_run_samples : (runs : List PlacedRun) → length (all_run_samples runs) ≡ sum_by run_count runs
length-all_run_samples [] = refl
length-all_run_samples (run ∷ runs) = length-append (run_samples_of run) (all_run_samples runs)
    ∙ omega (arith, length-run_samples_of run, length-all_run_samples runs, sum_by-cons run_count run runs)

pub slice_get-all_run_samples : (runs : List PlacedRun) (number i before : ℕ) (d : PlacedRun) → i < length runs
    → before ≡ sum_by run_count (take i runs) → before ≤ number → number - before < run_count (get_or runs i d) →
    slice_get (all_run_samples runs) number ≡ Some (run_sample_of (get_or runs i d) (number - before))
unfolding run_samples_of
slice_get-all_run_samples runs number i before d h e reached inside =
    let run = get_or runs i d in
    let m = run_sample_of run 0 in
    let j = number - before in
    let at : number ≡ length (all_run_samples (take i runs)) + j =
    omega (arith, length-all_run_samples (take i runs), e) in
    let whole : number < length (all_run_samples runs) = omega (
      arith,
      length-all_run_samples runs,
      sum_by_more_le run_count runs i d h,
      e,
    ) in
    let fits : j < length (run_samples_of run) = rw (length-run_samples_of run) inside in
    slice_get-get_or (all_run_samples runs) number m whole
    ∙ ap Some (ap (λ n. get_or (all_run_samples runs) n m) at ∙ get_or-flat_map run_samples_of runs i j d m h fits
    ∙ get_or-map-range_with_len (run_sample_of run) 0 (run_count run) j j m inside (omega arith))

pub slice_get-all_run_samples_past : (runs : List PlacedRun) (number i : ℕ) → length runs ≤ i
    → sum_by run_count (take i runs) ≤ number → slice_get (all_run_samples runs) number ≡ None
slice_get-all_run_samples_past runs number i all past =
    let whole : sum_by run_count (take i runs) ≡ sum_by run_count runs = ap (sum_by run_count) (take_all i runs all) in
    slice_get_past (all_run_samples runs) number (omega (arith, whole, length-all_run_samples runs))

-- what the run that was found has at a number
pub run_sample_found : (runs : List PlacedRun) (counts : List ℕ) (key i : ℕ) (d : PlacedRun) → key < 2 ^ 32 - 1
    → CountsBefore run_count runs counts → IsLastAtMost counts key i →
    run_sample_in (key - slice_index counts i) (get_or runs i d) ≡ slice_get (all_run_samples runs) key
run_sample_found runs counts key i d limit s at =
    let found = before_found run_count runs counts key i s limit at in
    let j = key - slice_index counts i in
    ⊎_elim
    (λ (inside : j < run_count (get_or runs i d)).
    rw (lt-ltb _ _ inside) (sym (slice_get-all_run_samples runs key i (slice_index counts i) d found.0 found.1 (omega
    (arith, found.1, found.2)) inside)))
    (λ (outside : run_count (get_or runs i d) ≤ j).
    let past = past_found run_count runs counts key i d s limit at outside in
    rw (le-ltb _ _ outside) (sym (slice_get-all_run_samples_past runs key (i + 1) past.0 past.1)))
    (cases_lt j (run_count (get_or runs i d)))

-- the entry of a run
pub entry_of : (find : Find) (runs : List PlacedRun) (index : RunIndex) (i : ℕ) (e : Entry) (d : PlacedRun)
    → Indexes find runs index → i < length runs → placed_at find (get_or index.entries i e) ≡ Some (get_or runs i d)
entry_of find runs index i e d s h =
    let so_many : length index.entries ≡ length runs = sym (length-map index.entries (placed_at find))
    ∙ ap length s.entries ∙ length-map runs (λ (p : PlacedRun). Some p) in
    sym (get_or-map (placed_at find) index.entries i e (Some d) (omega (arith, so_many)))
    ∙ ap (λ (xs : List (Option PlacedRun)). get_or xs i (Some d)) s.entries
    ∙ get_or-map (λ (p : PlacedRun). Some p) runs i d (Some d) h

pub length-entries : (find : Find) (runs : List PlacedRun) (index : RunIndex) → Indexes find runs index
    → length index.entries ≡ length index.counts
length-entries find runs index s = sym (length-map index.entries (placed_at find)) ∙ ap length s.entries
    ∙ length-map runs (λ (p : PlacedRun). Some p) ∙ sym s.counts.count

-- what is found by the entry is the sample at the number
pub located : (find : Find) (runs : List PlacedRun) (index : RunIndex) (key i : ℕ) (e : Entry)
    → key < 2 ^ 32 - 1 → Indexes find runs index → IsLastAtMost index.counts key i →
    option_and_then (run_sample_in (key - slice_index index.counts i)) (placed_at find (get_or index.entries i e))
    ≡ slice_get (all_run_samples runs) key
located find [] index key i e limit s at = absurd (omega (arith, at.within, s.counts.count))
located find (d ∷ runs) index key i e limit s at =
    let found = before_found run_count (d ∷ runs) index.counts key i s.counts limit at in
    rw (entry_of find (d ∷ runs) index i e d s found.0)
    (run_sample_found (d ∷ runs) index.counts key i d limit s.counts at)

pub located_none : (find : Find) (runs : List PlacedRun) (index : RunIndex) (key : ℕ) → Indexes find runs index
    → ((j : ℕ) → j < length index.counts → key < slice_index index.counts j)
    → slice_get (all_run_samples runs) key ≡ None
located_none find runs index key s above =
    let none = none_found run_count runs index.counts key s.counts above in
    slice_get-all_run_samples_past runs key 0 (omega (arith, none)) (omega arith)

-- the same of an entry that was read out of a copy of the entries
pub located_by : (find : Find) (es : List Entry) (runs : List PlacedRun) (index : RunIndex) (key i number : ℕ)
    (entry : Entry) (answer : Option RunSample) → key < 2 ^ 32 - 1 → Indexes find runs index →
    es ≡ index.entries → entry ≡ get_or es i entry → IsLastAtMost index.counts key i
    → number ≡ slice_index index.counts i →
    answer ≡ option_and_then (run_sample_in (key - number)) (placed_at find entry)
    → answer ≡ slice_get (all_run_samples runs) key
located_by find es runs index key i number entry answer limit s e1 is at e2 answered =
    rw e2 at answered
    ∙ ap (λ (e : Entry). option_and_then (run_sample_in (key - slice_index index.counts i)) (placed_at find e)) (is
    ∙ ap (λ (xs : List Entry). get_or xs i entry) e1)
    ∙ located find runs index key i entry limit s at

pub right_by : (find : Find) (es : List Entry) (runs : List PlacedRun) (index : RunIndex) (i : ℕ)
    (entry : Entry) → Indexes find runs index →
    es ≡ index.entries → entry ≡ get_or es i entry → i < length index.entries → IsRight find entry
right_by find es runs index i entry s e1 is h =
    let there : get_or index.entries i entry ≡ entry = sym (is ∙ ap (λ (xs : List Entry). get_or xs i entry) e1) in
    subst (λ (e : Entry). IsRight find e) there (s.right i entry h)
