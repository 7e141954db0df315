use Rattle.std.proofs.Common.{◌-◌, ◌≡◌, ◌≤◌, ◌<◌, ℕ, length, slice_index_or}
use Rattle.mp4_boxes.specs.declared.trak.TrakBox.{TrakBox}
use Rattle.mp4_remux.proofs.same.has_ids.Given as goal

-- the ids that were looked at are the same
abbrev pub invariant-loop-i : goal.invariant-loop-i
invariant-loop-i l = record {
  many : length l.traks ≡ length l.ids;
  upto : l.i ≤ length l.traks;
  are : l.traks ≡ l.fn.movie.moov.traks;
  these : l.ids ≡ l.fn.ids;
  same : (d : TrakBox) (n j : ℕ) → j < l.i
      → (slice_index_or l.traks j d).tkhd.track_id ≡ slice_index_or l.ids j n;
}

abbrev pub decreases-loop-i : goal.decreases-loop-i
decreases-loop-i l = length l.traks - l.i
