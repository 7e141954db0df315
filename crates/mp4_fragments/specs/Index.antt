-- What is kept of the runs of a track, so that its samples are found fast.
use Rattle.std.specs.Prelude.{◌≡◌, ℕ, ◌+◌, ◌-◌, ◌^◌, ◌<◌, min, List, [], ◌∷◌, ◌++◌, length, map, slice_get, get_or}
use Rattle.std.specs.Prelude.{Option, Some, None, IfSome, nat_lt, if◌then◌else◌}
use Rattle.std.specs.List.{sum_by, filter_map}
use Rattle.std.specs.Option.{option_map, option_and_then}
use Rattle.mp4_moof.specs.declared.trun.TrunBox.{TrunBox}
use Rattle.mp4_moof.specs.declared.traf.TrafBox.{TrafBox}
use Rattle.mp4_search.specs.Sums.{CountsBefore}
use Rattle.mp4_fragments.specs.Checkpoints.{AreCheckpoints}
use Rattle.mp4_fragments.specs.Defaults.{defaults_in}
use Rattle.mp4_fragments.specs.Fragments.{Walk}
use Rattle.mp4_fragments.specs.RunSamples.{PlacedRun, run_sample_of, run_count, values_of}
use Rattle.mp4_fragments.specs.declared.defaults.SampleDefaults.{SampleDefaults}
use Rattle.mp4_fragments.specs.Entry.{Entry}
use Rattle.mp4_fragments.specs.declared.index.RunIndex.{RunIndex}
use Rattle.mp4_fragments.specs.declared.run_samples.RunStart.{RunStart}
use Rattle.mp4_fragments.specs.declared.run_samples.RunSample.{RunSample}
use Rattle.mp4_fragments.specs.declared.run_samples.SampleValues.{SampleValues}

-- a run by the numbers of its fragment, of those of the track, and of itself, which count from 0
abbrev pub Find : Type 0
Find = ℕ → ℕ → Option (TrunBox × SampleDefaults)

unfoldable pub run_of_traf : SampleDefaults → ℕ → TrafBox → Option (TrunBox × SampleDefaults)
run_of_traf track i traf = option_map (λ run. (run, defaults_in traf track)) (slice_get traf.truns i)

unfoldable pub run_at : List TrafBox → SampleDefaults → Find
run_at trafs track t i = option_and_then (run_of_traf track i) (slice_get trafs t)

-- the run that an entry is of
unfoldable pub placed_at : Find → Entry → Option PlacedRun
placed_at find e = option_map (λ x. record { at = e.at; run = x.0; defaults = x.1 }) (find e.traf e.run)

-- the runs of an index of these fragments
unfoldable pub runs_of : List TrafBox → SampleDefaults → RunIndex → List PlacedRun
runs_of trafs track index = filter_map (placed_at (run_at trafs track)) index.entries

-- the one sample of a run
abbrev pub IsOnly : PlacedRun → SampleValues → Type 0
IsOnly p v = (run_count p ≡ 1) × (v ≡ values_of p 0)

-- the checkpoints of an entry are those of its run, and what it has of a sample is the run's only one
pub record IsRight (find : Find) (e : Entry) : Type 0 where
  pub only : (p : PlacedRun) → placed_at find e ≡ Some p → IfSome e.only (IsOnly p)
  pub checks : (p : PlacedRun) → placed_at find e ≡ Some p → AreCheckpoints p.run p.defaults p.at e.checks

-- the index of these runs
pub record Indexes (find : Find) (runs : List PlacedRun) (index : RunIndex) : Type 0 where
  pub entries : map (placed_at find) index.entries ≡ map Some runs
  pub right : (i : ℕ) (d : Entry) → i < length index.entries → IsRight find (get_or index.entries i d)
  pub counts : CountsBefore run_count runs index.counts
  pub before : index.before ≡ min (2 ^ 32 - 1) (sum_by run_count runs)
  pub total : index.total ≡ min (2 ^ 64 - 1) (sum_by run_count runs)

-- a call that walks: it comes from one place to the next, and adds the runs on its way to the index
pub record Walks (knows : Find → Type 0) (step : Walk → Walk) (first after : RunStart)
    (old new : RunIndex) : Type 0 where
  pub at : (runs : List PlacedRun) → after ≡ (step (record { at = first; runs = runs })).at
  pub index : (find : Find) (runs : List PlacedRun) → knows find → Indexes find runs old
      → Indexes find (step (record { at = first; runs = runs })).runs new

-- one more run
pub record Pushed (old new : RunIndex) (entry : Entry) (count : ℕ) : Type 0 where
  pub counts : new.counts ≡ old.counts ++ old.before ∷ []
  pub entries : new.entries ≡ old.entries ++ entry ∷ []
  pub before : new.before ≡ min (old.before + count) (2 ^ 32 - 1)
  pub total : new.total ≡ min (old.total + count) (2 ^ 64 - 1)

-- each of these runs is found by the number of its fragment and its own
pub record KnowsRuns (t : ℕ) (runs : List TrunBox) (defaults : SampleDefaults) (find : Find) : Type 0 where
  pub run : (i : ℕ) (d : TrunBox) → i < length runs → find t i ≡ Some (get_or runs i d, defaults)

pub record KnowsTrafs (track : SampleDefaults) (trafs : List TrafBox) (find : Find) : Type 0 where
  pub traf : (t : ℕ) (d : TrafBox) → t < length trafs → KnowsRuns t (get_or trafs t d).truns (defaults_in
      (get_or trafs t d) track) find

-- sample j of a run, if it has so many
abbrev pub run_sample_in : ℕ → PlacedRun → Option RunSample
run_sample_in j p = if nat_lt j (run_count p) then Some (run_sample_of p j) else None
