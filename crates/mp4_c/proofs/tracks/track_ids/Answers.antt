-- Sorting moves the ids, which are all and differ.
use Rattle.mp4_c.proofs.TrackRows.{rising_once_sorted}
use Rattle.mp4_c.proofs.tracks.track_ids.Goals as goal

pub returns-clause-ids : goal.returns-clause-ids
returns-clause-ids c = record {
  all = rw c.in_ok-ids.ensures.all at c.sort_unstable.ensures.permutation;
  rising = rising_once_sorted _ _ c.in_ok-ids.ensures.apart c.sort_unstable.ensures.permutation
      c.sort_unstable.ensures.sorted;
}
