use Rattle.std.proofs.Common.{◌-◌, ◌≡◌, ◌≤◌, ◌<◌, ℕ, Some, length}
use Rattle.std.specs.Prelude.{slice_get}
use Rattle.mp4_media.specs.MovieTracks.{OpenedTrack, track_at}
use Rattle.mp4_remux.proofs.chosen.check_ids.Given as goal

-- the ids that were looked at are there
abbrev pub invariant-loop-i : goal.invariant-loop-i
invariant-loop-i l = record {
  upto : l.i ≤ length l.ids;
  ids : l.ids ≡ l.fn.ids;
  there : (id j : ℕ) → j < l.i → slice_get l.fn.ids j ≡ Some id → (track : OpenedTrack)
      × (track_at l.fn.movie.moov l.fn.movie.moofs l.fn.movie.moof_places id ≡ Some track);
}

abbrev pub decreases-loop-i : goal.decreases-loop-i
decreases-loop-i l = length l.ids - l.i
