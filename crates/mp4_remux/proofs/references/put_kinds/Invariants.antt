use Rattle.std.proofs.Common.{◌≡◌, [], length, Some}
use Rattle.mp4_remux.specs.Edit.{each_box, joined, reference_box}
use Rattle.mp4_remux.proofs.references.put_kinds.Given as goal

-- with what the rest becomes all is there
abbrev pub invariant-loop-kind : goal.invariant-loop-kind
invariant-loop-kind l = record {
  upto : joined (Some l.out.items) (each_box (reference_box l.fn.ids) (λ rest. []) l.rest)
      ≡ joined (Some l.fn.out.items) (each_box (reference_box l.fn.ids) (λ rest. []) l.fn.payload);
}

abbrev pub decreases-loop-kind : goal.decreases-loop-kind
decreases-loop-kind l = length l.rest
