use Rattle.std.proofs.Common.{◌≡◌, ◌-◌, ◌^◌, min, length, take}
use Rattle.std.specs.List.{flat_map}
use Rattle.mp4_entry.specs.Avcc.{unit}
use Rattle.mp4_entry.proofs.avcc.units_size.Given as goal

abbrev pub invariant-loop-item : goal.invariant-loop-item
invariant-loop-item l = l.size ≡ min (length (flat_map unit (take l.item-index l.item-items))) (2 ^ 64 - 1)
