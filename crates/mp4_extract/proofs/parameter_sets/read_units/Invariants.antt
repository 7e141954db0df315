use Rattle.std.proofs.Common.{◌≡◌, ◌-◌}
use Rattle.mp4_codec.specs.Bytes.{list_at}
use Rattle.mp4_entry.specs.Avcc.{unit_at}
use Rattle.mp4_extract.specs.ParameterSets.{after_units}
use Rattle.mp4_extract.proofs.parameter_sets.read_units.Given as goal

abbrev pub invariant-loop : goal.invariant-loop
invariant-loop l =
    after_units l.list (list_at unit_at (l.count - l.counter) l.fields)
    ≡ after_units l.fn.list (list_at unit_at l.count l.fn.fields)
