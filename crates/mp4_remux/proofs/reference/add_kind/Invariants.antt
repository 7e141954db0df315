use Rattle.std.proofs.Common.{◌≡◌, ◌++◌, length}
use Rattle.mp4_remux.specs.References.{of_kind}
use Rattle.mp4_remux.proofs.reference.add_kind.Given as goal

-- the references so far, and those of the rest, are all
abbrev pub invariant-loop-rest : goal.invariant-loop-rest
invariant-loop-rest l = record {
  all : l.list.items ++ of_kind l.fn.track_id l.fn.one.name l.rest
      ≡ l.fn.list.items ++ of_kind l.fn.track_id l.fn.one.name l.fn.one.payload.now;
  track : l.track_id ≡ l.fn.track_id;
  kind : l.kind ≡ l.fn.one.name;
}

abbrev pub decreases-loop-rest : goal.decreases-loop-rest
decreases-loop-rest l = length l.rest
