use Rattle.std.proofs.Common.{◌≡◌, ◌++◌, drop}
use Rattle.std.specs.List.{filter}
use Rattle.mp4_remux.specs.References.{goes, stays}
use Rattle.mp4_remux.proofs.left_out.part.Given as goal

-- those so far, and those of the rest, are all
abbrev pub invariant-loop-i : goal.invariant-loop-i
invariant-loop-i l = record {
  staying : l.parted.staying.items ++ filter (stays l.fn.leaves_some l.fn.sorted) (drop l.i l.fn.list)
      ≡ filter (stays l.fn.leaves_some l.fn.sorted) l.fn.list;
  left_out : l.parted.left_out.items ++ filter (goes l.fn.leaves_some l.fn.sorted) (drop l.i l.fn.list)
      ≡ filter (goes l.fn.leaves_some l.fn.sorted) l.fn.list;
  some : l.leaves_some ≡ l.fn.leaves_some;
  sorted_is : l.sorted ≡ l.fn.sorted;
  list_is : l.list ≡ l.fn.list;
}
