-- What is kept beside the tables of a track, so that its samples are found fast.
use Rattle.std.specs.Prelude.{◌≡◌, ◌↔◌, map, IsTrue}
use Rattle.std.specs.List.Sorted.{IsStrictlyIncreasing}
use Rattle.mp4_boxes.specs.declared.stbl.StblBox.{StblBox}
use Rattle.mp4_lookup.specs.declared.index.TrackIndex.{TrackIndex}
use Rattle.mp4_samples.specs.Tables.{ctts_runs, sync_numbers}
use Rattle.mp4_search.specs.BitSet.{AreBitsOf}
use Rattle.mp4_search.specs.Sums.{CountsBefore}
use Rattle.mp4_lookup.specs.Sums.{SizesBefore, TimesBefore}

-- the index of these tables
pub record IsIndexOf (t : StblBox) (index : TrackIndex) : Type 0 where
  pub first_samples : index.first_samples ≡ map (λ e. e.first_sample) t.stsc.entries
  pub times : TimesBefore t.stts.entries index.stts_counts index.stts_times.items
  pub ctts : CountsBefore (λ r. r.sample_count) (ctts_runs t.ctts) index.ctts_counts
  pub rises : IsTrue index.sync_rises ↔ IsStrictlyIncreasing (sync_numbers t.stss)
  pub sync : index.sync_numbers ≡ sync_numbers t.stss
  pub bits : AreBitsOf (sync_numbers t.stss) index.sync_bits
  pub sizes : SizesBefore t.stsz.sample_sizes index.size_sums index.size_total
