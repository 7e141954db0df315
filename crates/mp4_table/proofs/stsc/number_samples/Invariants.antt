use Rattle.std.proofs.Common.{◌≡◌, take, drop, None}
use Rattle.mp4_table.specs.Stsc.{numbered_after}
use Rattle.mp4_table.proofs.Numbering.{with_front}
use Rattle.mp4_table.proofs.stsc.number_samples.Given as goal

abbrev pub invariant-loop-entry : goal.invariant-loop-entry
invariant-loop-entry l =
    with_front (take l.entry-index l.entries) (numbered_after l.before (drop l.entry-index l.entries))
    ≡ numbered_after None l.fn.entries
