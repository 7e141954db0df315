-- What a lookup counts, by each way of searching.
use Rattle.std.proofs.Common.{◌≡◌, ℕ, ◌-◌, ◌<◌, ◌≤◌, Bool, true, false, List, [], length, refl, subst, ap, sym}
use Rattle.std.proofs.Common.{◌∙◌, arith, Result, Ok, Err, Some, None}
use Rattle.std.specs.Prelude.{IsTrue, IfOk, IfSome, Option, if◌then◌else◌, nat_lt, ◌*◌}
use Rattle.std.proofs.lemmas.List.{length-map}
use Rattle.mp4_boxes.specs.declared.stbl.StblBox.{StblBox}
use Rattle.mp4_fragments.specs.Index.{Find, Indexes}
use Rattle.mp4_fragments.specs.RunSamples.{PlacedRun}
use Rattle.mp4_fragments.specs.declared.index.RunIndex.{RunIndex}
use Rattle.mp4_samples.specs.Tables.{tables_of}
use Rattle.mp4_samples.specs.declared.sample.Comparisons.{Comparisons}
use Rattle.mp4_samples.specs.declared.sample.SamplePlace.{SamplePlace}
use Rattle.mp4_search.specs.BitSet.{looks_at_bit}
use Rattle.mp4_search.specs.CountLaws.{nothing_by_halves}
use Rattle.mp4_search.specs.Search.{IsCountByGuess, IsCountByHalves, IsFew, IsFewByGuess, comparisons_in}
use Rattle.mp4_search.specs.declared.bit_set.BitSet.{BitSet}
use Rattle.mp4_table.specs.declared.stsc.StscEntry.{StscEntry}
use Rattle.mp4_boxes.specs.Stbl.{sample_count}
use Rattle.mp4_lookup.specs.Costs.{AreCounts, AreFew, AreFewByGuess, AreFewForRunSample, AreFewForRunSampleByGuess}
use Rattle.mp4_lookup.specs.Costs.{AreRunSampleCounts, AreTrackCounts, comparisons_at, comparisons_in_runs}
use Rattle.mp4_lookup.specs.Costs.{comparisons_of, sync_comparisons}
use Rattle.mp4_lookup.specs.Index.{IsIndexOf}
use Rattle.mp4_lookup.specs.Tracks.{is_of_movie}
use Rattle.mp4_lookup.specs.declared.index.TrackIndex.{TrackIndex}
use Rattle.mp4_lookup.specs.declared.track.Mp4Track.{Mp4Track}

-- what follows of each place follows of the one that is answered
pub of_place : {E : Type 0} (P Q : SamplePlace → Type 0) (r : Result (Option SamplePlace) E)
    → ((p : SamplePlace) → P p → Q p) → IfOk r (λ p. IfSome p P) → IfOk r (λ p. IfSome p Q)
of_place P Q (Ok (Some p)) more a = more p a
of_place P Q (Ok None) more a = tt
of_place P Q (Err e) more a = tt

-- the same of two facts
pub of_place_by : {E : Type 0} (P R Q : SamplePlace → Type 0) (r : Result (Option SamplePlace) E)
    → ((p : SamplePlace) → P p → R p → Q p) → IfOk r (λ p. IfSome p P) → IfOk r (λ p. IfSome p R)
    → IfOk r (λ p. IfSome p Q)
of_place_by P R Q (Ok (Some p)) more a b = more p a b
of_place_by P R Q (Ok None) more a b = tt
of_place_by P R Q (Err e) more a b = tt

-- BY HALVES

sync_counted : (rises : Bool) (numbers : List ℕ) (k n : ℕ) → (IsTrue rises → IsCountByHalves numbers k n)
    → (rises ≡ false → n ≡ 0) → n ≡ (if rises then comparisons_in numbers k else 0)
sync_counted true numbers k n searched none = (searched refl).searched
sync_counted false numbers k n searched none = none refl

none_in : (rises : Bool) (numbers : List ℕ) (k : ℕ) → numbers ≡ []
    → (if rises then comparisons_in numbers k else 0) ≡ 0
none_in true numbers k e = rw e (sym (nothing_by_halves k).searched)
none_in false numbers k e = refl

-- where stss has no numbers, none is compared
pub none_compared : (index : TrackIndex) (k : ℕ) → index.sync_numbers ≡ [] → sync_comparisons index k ≡ 0
none_compared index k e = none_in index.sync_rises index.sync_numbers k e

counted_at : (index : TrackIndex) (k : ℕ) (c : Comparisons) → AreCounts IsCountByHalves (λ bits n. 0) index k c
    → c ≡ comparisons_at index k
counted_at index k c a = λ i. record {
  stsc = a.stsc.searched i;
  stts = a.stts.searched i;
  ctts = a.ctts.searched i;
  stss = sync_counted index.sync_rises index.sync_numbers k c.stss a.stss a.unsorted i;
  runs = a.runs i;
}

counted_in_runs : (index : RunIndex) (number : ℕ) (c : Comparisons) → AreRunSampleCounts IsCountByHalves index number c
    → c ≡ comparisons_in_runs index number
counted_in_runs index number c a = λ i. record {
  stsc = a.stsc i;
  stts = a.stts i;
  ctts = a.ctts i;
  stss = a.stss i;
  runs = a.runs.searched i;
}

pub counted_of : (t : Mp4Track) (k : ℕ) (c : Comparisons) → AreTrackCounts IsCountByHalves (λ bits n. 0) t k c
    → c ≡ comparisons_of t k
unfolding comparisons_of
counted_of t k c a = step (is_of_movie t.trak t.trafs k) a.tables a.added
  where
    step : (b : Bool) → (IsTrue b → AreCounts IsCountByHalves (λ bits n. 0) t.index k c)
        → (b ≡ false → AreRunSampleCounts IsCountByHalves t.runs (k - sample_count (tables_of t.trak) - 1) c)
        → c ≡ (if b then comparisons_at t.index k else
        comparisons_in_runs t.runs (k - sample_count (tables_of t.trak) - 1))
    step true tables added = counted_at t.index k c (tables refl)
    step false tables added = counted_in_runs t.runs _ c (added refl)

-- HOW FEW

not_true : (b : Bool) → (IsTrue b → ⊥) → b ≡ false
not_true true h = absurd (h refl)
not_true false h = refl

length-firsts : (t : StblBox) (index : TrackIndex) → IsIndexOf t index
    → length index.first_samples ≡ length t.stsc.entries
length-firsts t index is =
    ap length is.first_samples ∙ length-map t.stsc.entries (λ (e : StscEntry). e.first_sample)

pub few_at : (t : StblBox) (index : TrackIndex) (k : ℕ) (c : Comparisons) → IsIndexOf t index
    → AreCounts IsCountByHalves (λ bits n. 0) index k c → AreFew t c
few_at t index k c is a = record {
  stsc = subst (IsFew c.stsc) (length-firsts t index is) a.stsc.few;
  stts = subst (IsFew c.stts) is.times.counts.count a.stts.few;
  ctts = subst (IsFew c.ctts) is.ctts.count a.ctts.few;
  stss = λ up. subst (IsFew c.stss) (ap length is.sync) (a.stss (is.rises.1 up)).few;
  unsorted = λ not. a.unsorted (not_true index.sync_rises (λ up. not (is.rises.0 up)));
  runs = a.runs;
}

one_look : (s : BitSet) (k : ℕ) → looks_at_bit s k ≤ 1
one_look s k = step (nat_lt k (64 * length s.words.items))
  where
    step : (b : Bool) → (if b then 1 else 0) ≤ 1
    step true = omega arith
    step false = omega arith

pub few_by_guess_at : (t : StblBox) (index : TrackIndex) (k : ℕ) (c : Comparisons) → IsIndexOf t index
    → AreCounts IsCountByGuess looks_at_bit index k c → AreFewByGuess t c
few_by_guess_at t index k c is a = record {
  stsc = subst (IsFewByGuess c.stsc) (length-firsts t index is) a.stsc.few;
  stts = subst (IsFewByGuess c.stts) is.times.counts.count a.stts.few;
  ctts = subst (IsFewByGuess c.ctts) is.ctts.count a.ctts.few;
  stss = λ up. subst (IsFewByGuess c.stss) (ap length is.sync) (a.stss (is.rises.1 up)).few;
  unsorted = λ not.
      omega (arith, a.unsorted (not_true index.sync_rises (λ up. not (is.rises.0 up))), one_look index.sync_bits k);
  runs = a.runs;
}

pub few_for_run_sample : (find : Find) (runs : List PlacedRun) (index : RunIndex) (number : ℕ) (c : Comparisons)
    → Indexes find runs index → AreRunSampleCounts IsCountByHalves index number c → 0 < length runs
    → AreFewForRunSample runs c
few_for_run_sample find runs index number c is a some =
    let few : IsFew c.runs (length runs) = subst (IsFew c.runs) is.counts.count a.runs.few in
    record {
      stsc = a.stsc;
      stts = a.stts;
      ctts = a.ctts;
      stss = a.stss;
      some_runs = few.some some;
      runs = few.most;
    }

pub few_for_run_sample_by_guess : (find : Find) (runs : List PlacedRun) (index : RunIndex) (number : ℕ)
    (c : Comparisons)
    → Indexes find runs index → AreRunSampleCounts IsCountByGuess index number c → 0 < length runs
    → AreFewForRunSampleByGuess runs c
few_for_run_sample_by_guess find runs index number c is a some =
    let few : IsFewByGuess c.runs (length runs) = subst (IsFewByGuess c.runs) is.counts.count a.runs.few in
    record {
      stsc = a.stsc;
      stts = a.stts;
      ctts = a.ctts;
      stss = a.stss;
      some_runs = few.some some;
      runs = few.most;
    }
