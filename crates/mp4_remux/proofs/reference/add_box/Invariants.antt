use Rattle.std.proofs.Common.{◌≡◌, ◌++◌, length}
use Rattle.std.specs.List.{flat_map}
use Rattle.mp4_remux.specs.References.{Part, of_kind, parts_in}
use Rattle.mp4_remux.proofs.reference.add_box.Given as goal

-- the references so far, and those of the rest, are all
abbrev pub invariant-loop-kind : goal.invariant-loop-kind
invariant-loop-kind l = record {
  all : l.list.items ++ flat_map (λ (p : Part). of_kind l.fn.track_id p.name p.payload) (parts_in l.rest)
      ≡ l.fn.list.items ++ flat_map (λ (p : Part). of_kind l.fn.track_id p.name p.payload)
      (parts_in l.fn.one.payload.now);
  track : l.track_id ≡ l.fn.track_id;
}

abbrev pub decreases-loop-kind : goal.decreases-loop-kind
decreases-loop-kind l = length l.rest
