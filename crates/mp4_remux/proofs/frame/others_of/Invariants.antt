use Rattle.std.proofs.Common.{◌≡◌, ◌++◌, drop}
use Rattle.std.specs.List.{filter}
use Rattle.mp4_remux.specs.Frames.{stays_beside}
use Rattle.mp4_remux.specs.declared.top_level.TopBox.{TopBox}
use Rattle.mp4_remux.proofs.frame.others_of.Given as goal

-- those so far, and those of the rest, are all
abbrev pub invariant-loop-i : goal.invariant-loop-i
invariant-loop-i l = record {
  others : l.others.items ++ filter (λ (b : TopBox). stays_beside l.fn.is_gathered b.name) (drop l.i l.fn.boxes)
      ≡ filter (λ (b : TopBox). stays_beside l.fn.is_gathered b.name) l.fn.boxes;
  gathered : l.is_gathered ≡ l.fn.is_gathered;
  boxes_are : l.boxes ≡ l.fn.boxes;
}
