use Rattle.std.proofs.Common.{◌≡◌}
use Rattle.mp4_remux.proofs.Causes.{IsOnlyUntil}
use Rattle.mp4_remux.proofs.frame.only_box.Given as goal

-- what was found is the only one of the boxes that were looked at which has the type
abbrev pub invariant-loop-i : goal.invariant-loop-i
invariant-loop-i l = record {
  boxes_are : l.boxes ≡ l.fn.boxes;
  name_is : l.name ≡ l.fn.name;
  only : IsOnlyUntil l.fn.boxes l.fn.name l.i l.found;
}
