use Rattle.std.proofs.Common.{◌≡◌, ◌++◌, length}
use Rattle.mp4_remux.specs.Edit.{references_to}
use Rattle.mp4_remux.proofs.references.put_references_to.Given as goal

-- those so far, and those of the rest, are all
abbrev pub invariant-loop-rest : goal.invariant-loop-rest
invariant-loop-rest l = record {
  all : l.out.items ++ references_to l.fn.ids l.rest ≡ l.fn.out.items ++ references_to l.fn.ids l.fn.payload;
}

abbrev pub decreases-loop-rest : goal.decreases-loop-rest
decreases-loop-rest l = length l.rest
