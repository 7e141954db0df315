use Rattle.std.proofs.Common.{◌≡◌, ◌-◌}
use Rattle.mp4_extract.specs.ParameterSets.{after_units, arrays_at}
use Rattle.mp4_extract.proofs.parameter_sets.read_arrays.Given as goal

abbrev pub invariant-loop : goal.invariant-loop
invariant-loop l =
    after_units l.list (arrays_at (l.count - l.counter) l.fields)
    ≡ after_units l.fn.list (arrays_at l.count l.fn.fields)
