use Rattle.std.proofs.Common.{◌-◌, ◌+◌, ◌≡◌, ◌≤◌, ◌<◌, ℕ, Some, length, slice_get}
use Rattle.mp4_boxes.specs.declared.trak.TrakBox.{TrakBox}
use Rattle.mp4_media.specs.FileBoxes.{opened_movie}
use Rattle.mp4_remux.specs.declared.made.Made.TheVariants.{Tables}
use Rattle.mp4_remux.specs.Headers.{IsShownUntil}
use Rattle.mp4_remux.specs.Same.{IsTrackAsBefore}
use Rattle.mp4_remux.specs.Remuxed.{ids_of}
use Rattle.mp4_remux.specs.Why.{HaveSamples, most_samples}
use Rattle.mp4_remux.proofs.same.check_same.Given as goal

-- the tracks that were looked at are as before, and where tables were made, their media last as long as their samples
abbrev pub invariant-loop-i : goal.invariant-loop-i
invariant-loop-i l = record {
  upto : l.i ≤ length l.traks;
  few : l.left < 4294967295;
  traks : l.traks ≡ l.fn.after.moov.traks;
  have : (n : ℕ) × (HaveSamples (opened_movie l.fn.before) (ids_of l.fn.after.moov) l.i n
      × (most_samples l.fn.layout.source_len ≡ l.left + n));
  same : (t : TrakBox) (j : ℕ) → j < l.i → slice_get l.fn.after.moov.traks j ≡ Some t
      → IsTrackAsBefore l.fn.layout.source_len l.fn.layout.made.items l.fn.layout.pieces.items
      (opened_movie l.fn.before) (opened_movie l.fn.after) t.tkhd.track_id;
  media : l.fn.made ≡ Tables → (t : TrakBox) (j : ℕ) → j < l.i → slice_get l.fn.after.moov.traks j ≡ Some t
      → IsShownUntil (opened_movie l.fn.after) t.tkhd.track_id t.mdia.mdhd.duration;
}

abbrev pub decreases-loop-i : goal.decreases-loop-i
decreases-loop-i l = length l.traks - l.i
