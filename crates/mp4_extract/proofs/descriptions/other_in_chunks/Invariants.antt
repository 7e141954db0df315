use Rattle.std.proofs.Common.{◌≡◌, drop}
use Rattle.mp4_extract.specs.Descriptions.{other_in_chunks}
use Rattle.mp4_extract.proofs.descriptions.other_in_chunks.Given as goal

abbrev pub invariant-loop-i : goal.invariant-loop-i
invariant-loop-i l = other_in_chunks l.count (drop l.i l.entries) ≡ other_in_chunks l.count l.entries
