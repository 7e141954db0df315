use Rattle.std.proofs.Common.{take}
use Rattle.std.specs.List.{flat_map}
use Rattle.mp4_codec.specs.Bytes.{Appends}
use Rattle.mp4_entry.specs.Avcc.{unit}
use Rattle.mp4_entry.proofs.avcc.put_units.Given as goal

abbrev pub invariant-loop-item : goal.invariant-loop-item
invariant-loop-item l = Appends l.fn.out.items l.out.items (flat_map unit (take l.item-index l.item-items))
