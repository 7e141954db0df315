use Rattle.std.proofs.Common.{◌≡◌, ◌-◌}
use Rattle.mp4_codec.specs.Bytes.{list_at, number_at}
use Rattle.mp4_codec.proofs.ListLoop.{with_front}
use Rattle.mp4_extract.proofs.text.read_units.Given as goal

abbrev pub invariant-loop : goal.invariant-loop
invariant-loop l =
    with_front l.units (list_at (number_at 2) (l.count - l.counter) l.fields)
    ≡ list_at (number_at 2) l.count l.fn.fields
