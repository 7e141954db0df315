use Rattle.std.proofs.Common.{◌≡◌, ◌++◌, length}
use Rattle.std.specs.List.{flat_map}
use Rattle.mp4_remux.specs.References.{Part, of_box, parts_in}
use Rattle.mp4_remux.proofs.reference.add_track.Given as goal

-- the references so far, and those of the rest, are all
abbrev pub invariant-loop-one : goal.invariant-loop-one
invariant-loop-one l = record {
  all : l.list.items ++ flat_map (λ (p : Part). of_box l.fn.track_id p.name p.payload) (parts_in l.rest)
      ≡ l.fn.list.items ++ flat_map (λ (p : Part). of_box l.fn.track_id p.name p.payload) (parts_in l.fn.track);
  track : l.track_id ≡ l.fn.track_id;
}

abbrev pub decreases-loop-one : goal.decreases-loop-one
decreases-loop-one l = length l.rest
