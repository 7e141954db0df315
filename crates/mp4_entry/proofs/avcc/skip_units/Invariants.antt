use Rattle.std.proofs.Common.{◌≡◌, ◌-◌}
use Rattle.mp4_entry.specs.Avcc.{after_units}
use Rattle.mp4_entry.proofs.avcc.skip_units.Given as goal

abbrev pub invariant-loop : goal.invariant-loop
invariant-loop l = after_units (l.count - l.counter) l.fields ≡ after_units l.count l.fn.fields
