use Rattle.std.proofs.Common.{◌≡◌, ◌-◌}
use Rattle.std.specs.Prelude.{vec_len, vec_capacity}
use Rattle.mp4_codec.specs.Bytes.{list_at}
use Rattle.mp4_codec.proofs.ListLoop.{with_front}
use Rattle.mp4_codec.proofs.entry.Entry.read_all.Given as goal

abbrev pub invariant-loop : goal.invariant-loop
invariant-loop g l =
    record {
      read : with_front l.items.items (list_at (g.Self.Entry.at l.version) (l.count - l.counter) l.fields)
          ≡ list_at (g.Self.Entry.at l.version) l.count l.fn.fields;
      many : vec_len l.items ≡ l.counter;
      room : vec_capacity l.items ≡ l.count;
    }
