-- The numbers of the pairs so far.
use Rattle.std.proofs.Common.{◌≡◌, map, take}
use Rattle.std.specs.Int.{w16, from_be_bytes}
use Rattle.mp4_report.proofs.tag_value.utf16_text.Given as goal

abbrev pub invariant-loop-pair : goal.invariant-loop-pair
invariant-loop-pair l = l.units.items ≡ map (from_be_bytes w16) (take l.pair-index l.pairs)
