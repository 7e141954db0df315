use Rattle.std.proofs.Common.{◌+◌, ◌-◌, ◌≤◌, ℕ, length}
use Rattle.mp4_remux.specs.Moved.{IsBy, base_of}
use Rattle.mp4_remux.proofs.EditedBoxes.{AreEdited}
use Rattle.mp4_remux.proofs.movie_box.+put_boxes.Given as goal

abbrev pub decreases-put_boxes : goal.decreases-put_boxes
decreases-put_boxes a = 5 - a.level

-- what is added for the rest completes what is added for all
abbrev pub invariant-loop-one : goal.invariant-loop-one
invariant-loop-one l = record {
  edited : (to : ℕ → ℕ) → IsBy l.moves to
      → AreEdited l.edit to (base_of l.moves) l.level l.fn.track l.track l.fn.bytes l.rest l.fn.out.items l.out.items;
  less : l.track + length l.rest ≤ l.fn.track + length l.fn.bytes;
  fewer : length l.rest ≤ length l.fn.bytes;
}

abbrev pub decreases-loop-one : goal.decreases-loop-one
decreases-loop-one l = length l.rest
