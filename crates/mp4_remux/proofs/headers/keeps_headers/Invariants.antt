use Rattle.std.proofs.Common.{◌-◌, ◌≡◌, ◌≤◌, ◌<◌, ℕ, Some, length}
use Rattle.std.specs.Prelude.{slice_get}
use Rattle.mp4_boxes.specs.declared.trak.TrakBox.{TrakBox}
use Rattle.mp4_media.specs.MovieTracks.{OpenedTrack, track_at}
use Rattle.mp4_remux.specs.Headers.{KeepsTrack}
use Rattle.mp4_remux.proofs.headers.keeps_headers.Given as goal

-- the tracks that were looked at keep what their headers say
abbrev pub invariant-loop-i : goal.invariant-loop-i
invariant-loop-i l = record {
  upto : l.i ≤ length l.traks;
  traks : l.traks ≡ l.fn.after.moov.traks;
  same : (t : TrakBox) (j : ℕ) → j < l.i → slice_get l.fn.after.moov.traks j ≡ Some t → (o : OpenedTrack)
      × ((track_at l.fn.before.moov l.fn.before.moofs l.fn.before.moof_places t.tkhd.track_id ≡ Some o)
      × KeepsTrack o.trak t);
}

abbrev pub decreases-loop-i : goal.decreases-loop-i
decreases-loop-i l = length l.traks - l.i
