use Rattle.std.proofs.Common.{◌≡◌, drop}
use Rattle.mp4_extract.specs.Descriptions.{other_in_fragments}
use Rattle.mp4_extract.proofs.descriptions.other_in_fragments.Given as goal

abbrev pub invariant-loop-i : goal.invariant-loop-i
invariant-loop-i l =
    other_in_fragments l.default l.count (drop l.i l.trafs) ≡ other_in_fragments l.default l.before l.trafs
