use Rattle.std.proofs.Common.{◌≡◌, ◌++◌, take}
use Rattle.mp4_extract.proofs.parameter_sets.add_units.Given as goal

abbrev pub invariant-loop-unit : goal.invariant-loop-unit
invariant-loop-unit l = l.list ≡ l.fn.list ++ take l.unit-index l.units
