use Rattle.std.proofs.Common.{refl, arith}
use Rattle.mp4_mux.specs.Columns.{values_of}
use Rattle.mp4_mux.proofs.column.Column.new.Goals as goal

pub invariant_of-result : goal.invariant_of-result
unfolding values_of
invariant_of-result g c = rw (c.new.ensures.items, c.new-2.ensures.items) record {
  counted = refl;
  some_per_run = tt;
  some_at_end = λ some. absurd (omega (arith, some));
}

pub returns : goal.returns
unfolding values_of
returns g c = rw (c.new.ensures.items, c.new-2.ensures.items) refl
