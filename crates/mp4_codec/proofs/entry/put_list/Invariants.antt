use Rattle.std.proofs.Common.{take}
use Rattle.std.specs.List.{flat_map}
use Rattle.mp4_codec.specs.Bytes.{Appends}
use Rattle.mp4_codec.proofs.entry.put_list.Given as goal

abbrev pub invariant-loop-item : goal.invariant-loop-item
invariant-loop-item g l =
    Appends l.fn.out.items l.out.items (flat_map (g.T.Entry.encoded l.version) (take l.item-index l.items))
