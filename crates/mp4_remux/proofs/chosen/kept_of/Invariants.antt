use Rattle.std.proofs.Common.{◌≡◌, ◌++◌, drop}
use Rattle.mp4_remux.specs.Remuxed.{kept_of}
use Rattle.mp4_remux.proofs.chosen.kept_of.Given as goal

-- those so far, and those of the rest, are all
abbrev pub invariant-loop-i : goal.invariant-loop-i
invariant-loop-i l = record {
  all : l.kept.items ++ kept_of l.fn.ids (drop l.i l.fn.all) ≡ kept_of l.fn.ids l.fn.all;
  ids : l.ids ≡ l.fn.ids;
  list : l.all ≡ l.fn.all;
}
