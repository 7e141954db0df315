use Rattle.std.proofs.Common.{◌-◌, ◌≡◌, ◌≤◌, ◌<◌, ℕ, Some, length}
use Rattle.std.specs.Prelude.{slice_get}
use Rattle.mp4_boxes.specs.declared.trak.TrakBox.{TrakBox}
use Rattle.mp4_remux.specs.Headers.{IsTrackTime}
use Rattle.mp4_remux.proofs.headers.have_track_times.Given as goal

-- the headers that were looked at say how long their tracks are
abbrev pub invariant-loop-i : goal.invariant-loop-i
invariant-loop-i l = record {
  upto : l.i ≤ length l.traks;
  traks : l.traks ≡ l.fn.traks;
  clock : l.clock ≡ l.fn.clock;
  same : (t : TrakBox) (j : ℕ) → j < l.i → slice_get l.traks j ≡ Some t → IsTrackTime t l.clock;
}

abbrev pub decreases-loop-i : goal.decreases-loop-i
decreases-loop-i l = length l.traks - l.i
