-- The runs of a track's fragments, placed one after the other.
use Rattle.std.proofs.Common.{◌≡◌, ℕ, ◌+◌, ◌<◌, List, length, get_or, take, fold, Option, Some, refl, sym, ap, subst}
use Rattle.std.proofs.Common.{◌∙◌, arith}
use Rattle.std.specs.Prelude.{zip, IfSome, if◌then◌else◌}
use Rattle.std.proofs.lemmas.List.Sums.{fold_more}
use Rattle.std.proofs.lemmas.List.{take_all, get_or_default}
use Rattle.std.proofs.lemmas.Option.{slice_get-get_or}
use Rattle.std.proofs.lemmas.Slice.Zip.{get_or-zip}
use Rattle.mp4_moof.specs.declared.trun.TrunBox.{TrunBox}
use Rattle.mp4_moof.specs.declared.traf.TrafBox.{TrafBox}
use Rattle.mp4_fragments.specs.RunSamples.{PlacedRun, at_run_sample}
use Rattle.mp4_fragments.specs.Defaults.{defaults_in}
use Rattle.mp4_fragments.specs.Fragments.{Walk, begins, first_time, has_run_samples, with_run, with_traf}
use Rattle.mp4_fragments.specs.Checkpoints.{AreCheckpoints}
use Rattle.mp4_fragments.specs.Index.{Find, placed_at, IsOnly, IsRight, Indexes, Pushed, Walks, KnowsRuns, KnowsTrafs}
use Rattle.mp4_fragments.specs.Index.{run_at}
use Rattle.mp4_fragments.specs.Index.{run_of_traf}
use Rattle.mp4_fragments.specs.declared.index.RunIndex.{RunIndex}
use Rattle.mp4_fragments.specs.Entry.{Entry}
use Rattle.mp4_fragments.specs.declared.run_samples.RunStart.{RunStart}
use Rattle.mp4_fragments.specs.declared.defaults.SampleDefaults.{SampleDefaults}
use Rattle.mp4_fragments.proofs.Indexing.{Indexes-push}

-- a loop begins
pub Walks-start : {X : Type 0} (knows : Find → Type 0) (f : Walk → X → Walk) (xs : List X) (at : RunStart)
    (index : RunIndex) → Walks knows (λ walk. fold f walk (take 0 xs)) at at index index
Walks-start knows f xs at index = record { at = λ runs. refl; index = λ find runs k h. h }

-- and takes one step more
pub Walks-more : {X : Type 0} (knows here : Find → Type 0) (f : Walk → X → Walk) (xs : List X) (i : ℕ) (x : X)
    (a b c : RunStart) (j k l : RunIndex) → i < length xs → x ≡ get_or xs i x → ((find : Find) → knows find
    → here find) →
    Walks knows (λ walk. fold f walk (take i xs)) a b j k → Walks here (λ walk. f walk x) b c k l
    → Walks knows (λ walk. fold f walk (take (i + 1) xs)) a c j l
Walks-more {X} knows here f xs i x a b c j k l h is to walks step =
    let begin : List PlacedRun → Walk = λ runs. record { at = a; runs = runs } in
    let before : List PlacedRun → Walk = λ runs. fold f (begin runs) (take i xs) in
    let one : (runs : List PlacedRun) → f (record { at = b; runs = (before runs).runs }) x ≡ fold f (begin runs)
    (take (i + 1) xs) =
    λ runs. ap (λ (at : RunStart). f (record { at = at; runs = (before runs).runs }) x) (walks.at runs)
    ∙ ap (f (before runs)) is ∙ sym (fold_more f (begin runs) xs i x h) in
    record {
      at = λ runs. step.at (before runs).runs ∙ ap (λ (w : Walk). w.at) (one runs);
      index = λ find runs known s.
          subst (λ (w : Walk). Indexes find w.runs l) (one runs) (step.index find (before runs).runs (to find known)
          (walks.index find runs known s));
    }

-- a loop over the whole list
pub Walks-whole : {X : Type 0} (knows : Find → Type 0) (f : Walk → X → Walk) (xs : List X) (i : ℕ) (a b : RunStart)
    (j k : RunIndex) → length xs ≡ i → Walks knows (λ walk. fold f walk (take i xs)) a b j k
    → Walks knows (λ walk. fold f walk xs) a b j k
Walks-whole {X} knows f xs i a b j k e walks =
    let P : List X → Type 0 = λ ys. Walks knows (λ walk. fold f walk ys) a b j k in
    subst P (take_all i xs (omega arith)) walks

right_at : (find : Find) (e : Entry) (p : PlacedRun) → placed_at find e ≡ Some p
    → AreCheckpoints p.run p.defaults p.at e.checks → IfSome e.only (IsOnly p) → IsRight find e
right_at find e p there checks only = record {
  only = λ q other.
      let same : p ≡ q = cc (there, other) in
      subst (λ (q : PlacedRun). IfSome e.only (IsOnly q)) same only;
  checks = λ q other.
      let same : p ≡ q = cc (there, other) in
      subst (λ (q : PlacedRun). AreCheckpoints q.run q.defaults q.at e.checks) same checks;
}

-- a run
pub Walks-run : (knows : Find → Type 0) (base_data_offset : Option ℕ) (defaults : SampleDefaults) (run : TrunBox)
    (a at after : RunStart) (entry : Entry) (old new : RunIndex) (t i : ℕ) →
    ((find : Find) → knows find → find t i ≡ Some (run, defaults)) →
    at ≡ begins base_data_offset run a → after ≡ at_run_sample run defaults at run.sample_count
    → entry.at ≡ at → entry.traf ≡ t → entry.run ≡ i → AreCheckpoints run defaults at entry.checks
    → ((first : RunStart) → IfSome entry.only (IsOnly (record { at = first; run = run; defaults = defaults }))) →
    Pushed old new entry run.sample_count →
    Walks knows (λ walk. with_run base_data_offset defaults walk run) a after old new
unfolding with_run placed_at
Walks-run knows base_data_offset defaults run a at after entry old new t i there e1 e2 e3 e4 e5 right one pushed =
    let placed : RunStart → PlacedRun = λ a. record { at = a; run = run; defaults = defaults } in
    let begin : RunStart = begins base_data_offset run a in
    record {
      at = λ runs. e2 ∙ ap (λ (a : RunStart). at_run_sample run defaults a run.sample_count) e1;
      index = λ find runs known s.
          let found : placed_at find entry ≡ Some (placed at) = rw (e3, e4, e5, there find known) refl in
          Indexes-push find runs old new entry (placed begin) pushed (found ∙ ap (λ (a : RunStart). Some
          (placed a)) e1) (right_at find entry (placed at) found right (one at)) s;
    }

-- a track fragment
own : (track : SampleDefaults) (traf : TrafBox) (base_data_offset : Option ℕ) (t : ℕ) (at last after : RunStart)
    (old new : RunIndex) →
    after ≡ record { place = last.place; time = if has_run_samples traf then last.time else at.time } →
    Walks (KnowsRuns t traf.truns (defaults_in traf track)) (λ walk. fold (with_run base_data_offset
    (defaults_in traf track)) walk traf.truns) (record {
      place = base_data_offset;
      time =
          first_time traf.tfdt at.time;
    }) last old new →
    Walks (KnowsRuns t traf.truns (defaults_in traf track)) (λ walk. with_traf track walk (traf, base_data_offset))
    at after old new
unfolding with_traf
own track traf base_data_offset t at last after old new e walks = record {
  at = λ runs. e ∙ ap (λ (l : RunStart). record {
    place = l.place;
    time =
        if has_run_samples traf then l.time else at.time;
  }) (walks.at runs);
  index = walks.index;
}

pub Walks-traf : (track : SampleDefaults) (traf : TrafBox) (base_data_offset : Option ℕ) (t : ℕ)
    (at last after : RunStart) (old new : RunIndex) (time : Option ℕ) (defaults : SampleDefaults)
    (runs : List TrunBox) →
    time ≡ first_time traf.tfdt at.time → defaults ≡ defaults_in traf track → runs ≡ traf.truns →
    after ≡ record { place = last.place; time = if has_run_samples traf then last.time else at.time } →
    Walks (KnowsRuns t runs defaults) (λ walk. fold (with_run base_data_offset defaults) walk runs) (record {
      place =
          base_data_offset;
      time = time;
    }) last old new →
    Walks (KnowsRuns t traf.truns (defaults_in traf track)) (λ walk. with_traf track walk (traf, base_data_offset))
    at after old new
Walks-traf track traf base_data_offset t at last after old new time defaults runs e1 e2 e3 e walks =
    let P : Option ℕ → SampleDefaults → List TrunBox → Type 0 = λ time defaults runs. Walks
    (KnowsRuns t runs defaults) (λ walk. fold (with_run base_data_offset defaults) walk runs) (record {
      place = base_data_offset;
      time =
          time;
    }) last old new in
    own track traf base_data_offset t at last after old new e
    (subst (P (first_time traf.tfdt at.time) (defaults_in traf track)) e3 (subst (λ d. P
    (first_time traf.tfdt at.time) d runs) e2 (subst (λ b. P b defaults runs) e1 walks)))

-- the part with a number, and its base data offset
pub in_zip : (trafs : List TrafBox) (offsets : List (Option ℕ)) (t : ℕ) (traf : TrafBox) (offset d : Option ℕ)
    → length offsets ≡ length trafs → t < length trafs →
    traf ≡ get_or trafs t traf → offset ≡ get_or offsets t d
    → (traf, offset) ≡ get_or (zip trafs offsets) t (traf, offset)
in_zip trafs offsets t traf offset d so_many h is has =
    let same : get_or offsets t offset ≡ get_or offsets t d = get_or_default offsets t offset d (omega arith) in
    let there : offset ≡ get_or offsets t offset = has ∙ sym same in
    sym (get_or-zip trafs offsets t (traf, offset) h (omega arith) ∙ ap (λ (f : TrafBox). (f, get_or offsets t offset))
    (sym is) ∙ ap (λ b. (traf, b)) (sym there))

-- what is found by the numbers of fragments and runs
pub knows_all : (trafs : List TrafBox) (track : SampleDefaults) → KnowsTrafs track trafs (run_at trafs track)
unfolding run_at run_of_traf
knows_all trafs track = record {
  traf = λ t d h. record {
    run = λ i r l. rw (slice_get-get_or trafs t d h, slice_get-get_or (get_or trafs t d).truns i r l) refl;
  };
}
