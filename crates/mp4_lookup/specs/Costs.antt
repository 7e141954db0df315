-- What a lookup counts, and how few numbers it compares and reads.
use Rattle.std.specs.Prelude.{◌≡◌, ℕ, ◌+◌, ◌-◌, ◌^◌, ◌<◌, ◌≤◌, Bool, true, false, List, length, min, nat_le}
use Rattle.std.specs.Prelude.{slice_index, IsTrue, if◌then◌else◌}
use Rattle.std.specs.Prelude.{IfOk, IfSome, Option, Result}
use Rattle.std.specs.List.Sorted.{IsStrictlyIncreasing}
use Rattle.mp4_codec.specs.declared.error.Error.{Error}
use Rattle.mp4_boxes.specs.declared.stbl.StblBox.{StblBox}
use Rattle.mp4_boxes.specs.Stbl.{sample_count}
use Rattle.mp4_fragments.specs.declared.index.RunIndex.{RunIndex}
use Rattle.mp4_fragments.specs.ByTime.{IsCountByTime, run_sample_by}
use Rattle.mp4_fragments.specs.RunSamples.{PlacedRun}
use Rattle.mp4_fragments.specs.Sync.{spans_by, sync_at}
use Rattle.mp4_lookup.specs.declared.counters.Counters.{Counters}
use Rattle.mp4_lookup.specs.declared.index.TrackIndex.{TrackIndex}
use Rattle.mp4_samples.specs.declared.sample.Comparisons.{Comparisons}
use Rattle.mp4_samples.specs.declared.sample.SamplePlace.{SamplePlace}
use Rattle.mp4_lookup.specs.declared.track.Mp4Track.{Mp4Track}
use Rattle.mp4_samples.specs.Tables.{ctts_runs, sync_numbers, tables_of}
use Rattle.mp4_lookup.specs.Tracks.{is_of_movie}
use Rattle.mp4_lookup.specs.TrackRuns.{track_runs}
use Rattle.mp4_search.specs.Digits.{digits}
use Rattle.mp4_search.specs.Partition.{ArePartedAt, asked_in}
use Rattle.mp4_search.specs.BitSet.{looks_at_bit}
use Rattle.mp4_search.specs.Search.{IsCountByGuess, IsFew, IsFewByGuess, comparisons_in}
use Rattle.mp4_search.specs.declared.bit_set.BitSet.{BitSet}

-- what holds of the place that was found, if one was
abbrev pub IfPlace : Result (Option SamplePlace) Error → (SamplePlace → Type 0) → Type 0
IfPlace result P = IfOk result (λ p. IfSome p P)

-- nothing is read yet
pub record AreFresh (c : Counters) : Type 0 where
  pub stsc : c.stsc ≡ 0
  pub stts : c.stts ≡ 0
  pub ctts : c.ctts ≡ 0
  pub stss : c.stss ≡ 0
  pub runs : c.runs ≡ 0
  pub sizes : c.sizes ≡ 0

-- what was counted of the searches
abbrev pub comparisons_counted : Counters → Comparisons
comparisons_counted c = record { stsc = c.stsc; stts = c.stts; ctts = c.ctts; stss = c.stss; runs = c.runs }

-- What the lookup of sample k counts, by a search that counts so in numbers that rise, and so in a set of bits: in each
-- table one search, in stss where its numbers strictly rise, and else what the set counts; and nothing in the runs of
-- fragments.
pub record AreCounts (counts : List ℕ → ℕ → ℕ → Type 0) (looks : BitSet → ℕ → ℕ) (index : TrackIndex) (k : ℕ)
    (c : Comparisons) : Type 0 where
  pub stsc : counts index.first_samples k c.stsc
  pub stts : counts index.stts_counts (k - 1) c.stts
  pub ctts : counts index.ctts_counts (k - 1) c.ctts
  pub stss : IsTrue index.sync_rises → counts index.sync_numbers k c.stss
  pub unsorted : index.sync_rises ≡ false → c.stss ≡ looks index.sync_bits k
  pub runs : c.runs ≡ 0

-- the same for the sample with this number among those that fragments add: one search in the runs
pub record AreRunSampleCounts (counts : List ℕ → ℕ → ℕ → Type 0) (index : RunIndex) (number : ℕ)
    (c : Comparisons) : Type 0 where
  pub stsc : c.stsc ≡ 0
  pub stts : c.stts ≡ 0
  pub ctts : c.ctts ≡ 0
  pub stss : c.stss ≡ 0
  pub runs : counts index.counts number c.runs

-- the same for sample k of a track
pub record AreTrackCounts (counts : List ℕ → ℕ → ℕ → Type 0) (looks : BitSet → ℕ → ℕ) (t : Mp4Track) (k : ℕ)
    (c : Comparisons) : Type 0 where
  pub tables : IsTrue (is_of_movie t.trak t.trafs k) → AreCounts counts looks t.index k c
  pub added : is_of_movie t.trak t.trafs k ≡ false
      → AreRunSampleCounts counts t.runs (k - sample_count (tables_of t.trak) - 1) c

-- What the lookup of sample k of a track by a guess counts: in each table, or in the runs, the comparisons of one
-- search, by halves or from some entry on; where the numbers of stss don't strictly rise, one look at the bit of k, and
-- none where it has no bit.
abbrev pub AreTrackCountsByGuess : Mp4Track → ℕ → Comparisons → Type 0
AreTrackCountsByGuess = AreTrackCounts IsCountByGuess looks_at_bit

-- how many numbers of stss `locate` compares with k: none where they don't strictly rise, since all are then looked at
abbrev pub sync_comparisons : TrackIndex → ℕ → ℕ
sync_comparisons index k = if index.sync_rises then comparisons_in index.sync_numbers k else 0

-- how many numbers `locate` compares for sample k: those of one search by halves in each table, and none elsewhere
abbrev pub comparisons_at : TrackIndex → ℕ → Comparisons
comparisons_at index k = record {
  stsc = comparisons_in index.first_samples k;
  stts = comparisons_in index.stts_counts (k - 1);
  ctts = comparisons_in index.ctts_counts (k - 1);
  stss = sync_comparisons index k;
  runs = 0;
}

-- the same for the sample with this number among those that fragments add: those of one search in the runs
abbrev pub comparisons_in_runs : RunIndex → ℕ → Comparisons
comparisons_in_runs index number =
    record { stsc = 0; stts = 0; ctts = 0; stss = 0; runs = comparisons_in index.counts number }

-- how many numbers `locate` compares for sample k of a track
unfoldable pub comparisons_of : Mp4Track → ℕ → Comparisons
comparisons_of t k =
    if is_of_movie t.trak t.trafs k then comparisons_at t.index k else
    comparisons_in_runs t.runs (k - sample_count (tables_of t.trak) - 1)

-- tick i of those that are before the runs of stts is at most a time
abbrev pub times_by : List ℕ → ℕ → ℕ → Bool
times_by times time i = nat_le (slice_index times i) time

-- So many times are compared for the last sample of the movie box that is decoded at or before a time: those of a
-- search by halves among the ticks before each run of stts, and where a run begins so early, one reading more, of how
-- many samples come before it.
pub record IsCountInTable (times : List ℕ) (time n : ℕ) : Type 0 where
  pub none : ArePartedAt (times_by times time) (length times) 0 → n ≡ asked_in (times_by times time) (length times)
  pub some : (r : ℕ) → ArePartedAt (times_by times time) (length times) (r + 1)
      → n ≡ asked_in (times_by times time) (length times) + 1
  pub few : n ≤ digits (length times) + 1

-- So many times are compared for the last sample of a track that is decoded at or before a time: those of its
-- fragments, and where none of them is decoded so early, those of the movie box. The count stops at 2^32 - 1.
pub record IsCountByTrackTime (t : Mp4Track) (time n : ℕ) : Type 0 where
  pub added : ℕ
  pub in_runs : IsCountByTime (track_runs t) t.seek.times.latest_first.items
      (2 ^ 32 - 1 - sample_count (tables_of t.trak)) time added
  pub found : (j : ℕ) → j < 2 ^ 32 - 1 - sample_count (tables_of t.trak)
      → run_sample_by (track_runs t) time j ≡ true → n ≡ added
  pub before : ((j : ℕ) → j < 2 ^ 32 - 1 - sample_count (tables_of t.trak)
      → run_sample_by (track_runs t) time j ≡ false)
      → (tables : ℕ) × (IsCountInTable t.index.stts_times.items time tables) × (n ≡ min (2 ^ 32 - 1) (added + tables))

-- how many numbers are compared for the last sync sample up to sample k among those that fragments add: those of a
-- search by halves among the first samples of the spans of sync samples
abbrev pub comparisons_in_spans : Mp4Track → ℕ → ℕ
comparisons_in_spans t k =
    if nat_le k (sample_count (tables_of t.trak)) then 0 else
    asked_in (spans_by t.seek.sync.firsts.items (k - sample_count (tables_of t.trak) - 1))
    (length t.seek.sync.firsts.items)

-- So many numbers are compared for the last sync sample of a track up to sample k: those of its fragments, and where no
-- sample of them is one, those of stss. The count stops at 2^32 - 1.
pub record IsCountBySync (t : Mp4Track) (k n : ℕ) : Type 0 where
  pub found : (j : ℕ) → sample_count (tables_of t.trak) + 1 + j ≤ k → sync_at (track_runs t) j ≡ true
      → n ≡ comparisons_in_spans t k
  pub before : ((j : ℕ) → sample_count (tables_of t.trak) + 1 + j ≤ k → sync_at (track_runs t) j ≡ false)
      → n ≡ min (2 ^ 32 - 1)
      (comparisons_in_spans t k + sync_comparisons t.index (min k (sample_count (tables_of t.trak))))

-- In each table at most as many comparisons as the number of its entries has binary digits, in stss where it strictly
-- rises, and none there where it doesn't; no run of a fragment is looked at.
pub record AreFew (t : StblBox) (c : Comparisons) : Type 0 where
  pub stsc : IsFew c.stsc (length t.stsc.entries)
  pub stts : IsFew c.stts (length t.stts.entries)
  pub ctts : IsFew c.ctts (length (ctts_runs t.ctts))
  pub stss : IsStrictlyIncreasing (sync_numbers t.stss) → IsFew c.stss (length (sync_numbers t.stss))
  pub unsorted : (IsStrictlyIncreasing (sync_numbers t.stss) → ⊥) → c.stss ≡ 0
  pub runs : c.runs ≡ 0

-- In each table at most four comparisons more than the number of its entries has binary digits, and at least one if it
-- has an entry; in stss where it strictly rises, and at most one where it doesn't. No run of a fragment is looked at.
pub record AreFewByGuess (t : StblBox) (c : Comparisons) : Type 0 where
  pub stsc : IsFewByGuess c.stsc (length t.stsc.entries)
  pub stts : IsFewByGuess c.stts (length t.stts.entries)
  pub ctts : IsFewByGuess c.ctts (length (ctts_runs t.ctts))
  pub stss : IsStrictlyIncreasing (sync_numbers t.stss) → IsFewByGuess c.stss (length (sync_numbers t.stss))
  pub unsorted : (IsStrictlyIncreasing (sync_numbers t.stss) → ⊥) → c.stss ≤ 1
  pub runs : c.runs ≡ 0

-- A sample that a fragment adds is found by a search in the runs alone: at least one comparison, and at most as many as
-- the number of the runs has binary digits.
pub record AreFewForRunSample (placed : List PlacedRun) (c : Comparisons) : Type 0 where
  pub stsc : c.stsc ≡ 0
  pub stts : c.stts ≡ 0
  pub ctts : c.ctts ≡ 0
  pub stss : c.stss ≡ 0
  pub some_runs : 1 ≤ c.runs
  pub runs : c.runs ≤ digits (length placed)

-- the same by a guess: at least one comparison, and at most four more
pub record AreFewForRunSampleByGuess (placed : List PlacedRun) (c : Comparisons) : Type 0 where
  pub stsc : c.stsc ≡ 0
  pub stts : c.stts ≡ 0
  pub ctts : c.ctts ≡ 0
  pub stss : c.stss ≡ 0
  pub some_runs : 1 ≤ c.runs
  pub runs : c.runs ≤ digits (length placed) + 4

-- no running size is read where all samples have one size, else two are
pub record AreFewSizeReads (t : StblBox) (reads : ℕ) : Type 0 where
  pub one_size : 0 < t.stsz.sample_size → reads ≡ 0
  pub listed : t.stsz.sample_size ≡ 0 → reads ≡ 2
