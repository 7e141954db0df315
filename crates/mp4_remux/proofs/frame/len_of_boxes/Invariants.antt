use Rattle.std.proofs.Common.{◌≡◌, take}
use Rattle.std.specs.List.{sum_by}
use Rattle.mp4_remux.specs.Frames.{box_len}
use Rattle.mp4_remux.specs.ShownTimes.{in_64_bits}
use Rattle.mp4_remux.proofs.frame.len_of_boxes.Given as goal

-- the length so far is that of the boxes that were looked at
abbrev pub invariant-loop-one : goal.invariant-loop-one
invariant-loop-one l = record {
  len : l.len ≡ in_64_bits (sum_by box_len (take l.one-index l.fn.boxes));
  boxes_are : l.boxes ≡ l.fn.boxes;
}
