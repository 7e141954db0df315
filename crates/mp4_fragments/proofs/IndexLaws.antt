-- What an index says of the runs that it was made of.
use Rattle.std.proofs.Common.{◌≡◌, ℕ, ◌<◌, List, [], ◌∷◌, length, map, drop, get_or, Option, Some, None, refl, ap}
use Rattle.std.proofs.Common.{arith}
use Rattle.std.specs.Prelude.{slice_get}
use Rattle.std.specs.List.{filter_map}
use Rattle.mp4_moof.specs.declared.traf.TrafBox.{TrafBox}
use Rattle.mp4_fragments.specs.Index.{Indexes, placed_at, run_at, runs_of}
use Rattle.mp4_fragments.specs.RunSamples.{PlacedRun, all_run_samples}
use Rattle.mp4_fragments.specs.declared.defaults.SampleDefaults.{SampleDefaults}
use Rattle.mp4_fragments.specs.declared.index.RunIndex.{RunIndex}
use Rattle.mp4_fragments.specs.declared.run_samples.RunSample.{RunSample}

-- where each item is found, they are what is found
found_of_map : {X A : Type 0} (f : X → Option A) (xs : List X) (ys : List A) → map f xs ≡ map Some ys
    → filter_map f xs ≡ ys
found_of_map f [] [] e = refl
found_of_map f [] (y ∷ ys) e = absurd cc
found_of_map f (x ∷ xs) [] e = absurd cc
found_of_map {X} {A} f (x ∷ xs) (y ∷ ys) e =
    let first : f x ≡ Some y = ap (λ (zs : List (Option A)). get_or zs 0 None) e in
    let rest : map f xs ≡ map Some ys = ap (λ (zs : List (Option A)). drop 1 zs) e in
    rw first (ap (λ zs. y ∷ zs) (found_of_map f xs ys rest))

-- the runs of an index are those that it was made of
pub indexed_runs : (trafs : List TrafBox) (track : SampleDefaults) (runs : List PlacedRun) (index : RunIndex)
    → Indexes (run_at trafs track) runs index → runs_of trafs track index ≡ runs
unfolding runs_of
indexed_runs trafs track runs index s = found_of_map (placed_at (run_at trafs track)) index.entries runs s.entries

-- where there is a sample there is a run
pub run_sample_has_run : (runs : List PlacedRun) (number : ℕ) (m : RunSample)
    → slice_get (all_run_samples runs) number ≡ Some m
    → 0 < length runs
run_sample_has_run [] number m e = absurd cc
run_sample_has_run (run ∷ runs) number m e = omega arith
