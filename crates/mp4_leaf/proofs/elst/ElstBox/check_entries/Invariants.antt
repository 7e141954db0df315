use Rattle.std.proofs.Common.{◌≡◌, take, None}
use Rattle.mp4_codec.specs.Boxes.{all_refusal}
use Rattle.mp4_leaf.specs.Elst.{elst_entry_refusal}
use Rattle.mp4_leaf.proofs.elst.ElstBox.check_entries.Given as goal

abbrev pub invariant-loop-entry : goal.invariant-loop-entry
invariant-loop-entry l = all_refusal (elst_entry_refusal l.self.version) (take l.entry-index l.entry-items) ≡ None
