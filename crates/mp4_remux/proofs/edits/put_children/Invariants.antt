use Rattle.std.proofs.Common.{◌≡◌, length, Some}
use Rattle.mp4_remux.specs.Edit.{each_box, edit_box, joined}
use Rattle.mp4_remux.proofs.edits.put_children.Given as goal

-- with what the rest becomes all is there
abbrev pub invariant-loop-child : goal.invariant-loop-child
invariant-loop-child l = record {
  upto : joined (Some l.out.items) (each_box (edit_box l.last) (λ rest. rest) l.rest)
      ≡ joined (Some l.fn.out.items) (each_box (edit_box l.fn.last) (λ rest. rest) l.fn.payload);
  last : l.last ≡ l.fn.last;
}

abbrev pub decreases-loop-child : goal.decreases-loop-child
decreases-loop-child l = length l.rest
