use Rattle.std.proofs.Common.{◌≡◌, ◌≤◌, ◌*◌, ◌-◌, ◌++◌, length}
use Rattle.std.specs.Prelude.{vec_len, vec_capacity}
use Rattle.mp4_moof.specs.RowColumns.{numbers_at}
use Rattle.mp4_moof.proofs.rows.numbers_at.Given as goal

abbrev pub invariant-loop : goal.invariant-loop
invariant-loop l =
    record {
      read : l.numbers.items ++ numbers_at l.place l.each (l.count - l.counter) l.rest
          ≡ numbers_at l.place l.each l.count l.rows;
      enough : (l.count - l.counter) * l.each ≤ length l.rest;
      many : vec_len l.numbers ≡ l.counter;
      room : vec_capacity l.numbers ≡ l.count;
    }
