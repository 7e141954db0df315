-- The name isn't in the pairs so far.
use Rattle.std.proofs.Common.{◌≡◌, drop, map}
use Rattle.mp4_report.specs.TagNames.{name_in}
use Rattle.mp4_report.proofs.Names.{pair_of}
use Rattle.mp4_report.proofs.tag_names.name_in.Given as goal

abbrev pub invariant-loop-named : goal.invariant-loop-named
invariant-loop-named l =
    name_in (map pair_of (drop l.named-index l.names)) l.code.value ≡ name_in (map pair_of l.names) l.code.value
