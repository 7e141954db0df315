use Rattle.std.proofs.Common.{◌≡◌, take, None}
use Rattle.mp4_codec.specs.Boxes.{all_refusal}
use Rattle.mp4_entry.specs.Avcc.{unit_refusal}
use Rattle.mp4_entry.proofs.avcc.check_units.Given as goal

abbrev pub invariant-loop-item : goal.invariant-loop-item
invariant-loop-item l = all_refusal unit_refusal (take l.item-index l.item-items) ≡ None
