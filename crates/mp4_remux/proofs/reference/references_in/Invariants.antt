use Rattle.std.proofs.Common.{◌≡◌, ◌++◌, length, drop}
use Rattle.mp4_remux.specs.References.{of_each_track, parts_in, references_in}
use Rattle.mp4_remux.proofs.reference.references_in.Given as goal

-- the references so far, and those of the tracks that are left, are all
abbrev pub invariant-loop-one : goal.invariant-loop-one
invariant-loop-one l = record {
  all : l.list.items ++ of_each_track (parts_in l.rest) (drop l.i l.fn.ids) ≡ references_in l.fn.movie l.fn.ids;
  ids : l.ids ≡ l.fn.ids;
}

abbrev pub decreases-loop-one : goal.decreases-loop-one
decreases-loop-one l = length l.rest
