use Rattle.std.proofs.Common.{◌≡◌, ◌-◌}
use Rattle.mp4_codec.specs.Bytes.{list_at}
use Rattle.mp4_codec.proofs.ListLoop.{with_front}
use Rattle.mp4_entry.specs.Avcc.{unit_at}
use Rattle.mp4_entry.proofs.avcc.read_units.Given as goal

abbrev pub invariant-loop : goal.invariant-loop
invariant-loop l =
    with_front l.units (list_at unit_at (l.count - l.counter) l.fields) ≡ list_at unit_at l.count l.fn.fields
