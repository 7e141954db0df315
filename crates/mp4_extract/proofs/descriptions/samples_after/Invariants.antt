use Rattle.std.proofs.Common.{◌≡◌, drop}
use Rattle.mp4_extract.specs.Descriptions.{samples_after}
use Rattle.mp4_extract.proofs.descriptions.samples_after.Given as goal

abbrev pub invariant-loop-i : goal.invariant-loop-i
invariant-loop-i l = samples_after l.count (drop l.i l.truns) ≡ samples_after l.before l.truns
