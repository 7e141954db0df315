use Rattle.std.proofs.Common.{refl, arith}
use Rattle.mp4_mux.proofs.ColumnRuns.{some-runs, same_size-is, same_size-none}
use Rattle.mp4_mux.specs.Columns.{values_of}
use Rattle.mp4_mux.proofs.column_tables.same_size.Goals as goal

pub returns-then-len-eq0 : goal.returns-then-len-eq0
returns-then-len-eq0 c =
    same_size-none (values_of c.args.sizes.now) (omega (arith, c.if-len-eq0.true, c.len.ensures))

pub run_at-size-requires : goal.run_at-size-requires
run_at-size-requires c = some-runs c.args.sizes.now (omega (arith, c.if-len-eq0.false, c.len.ensures))

pub returns-then-all_equal : goal.returns-then-all_equal
returns-then-all_equal c =
    rw (
      ← same_size-is c.args.sizes.now c.run_at-size.result (some-runs c.args.sizes.now (omega (arith, c.if-len-eq0.false, c.len.ensures)))
          c.run_at-size.ensures.is (c.run_at-size.ensures.some (omega (arith, c.if-len-eq0.false, c.len.ensures))),
      ← c.if-all_equal.ensures,
    ) refl

pub returns-else-all_equal : goal.returns-else-all_equal
returns-else-all_equal c =
    rw (
      ← same_size-is c.args.sizes.now c.run_at-size.result (some-runs c.args.sizes.now (omega (arith, c.if-len-eq0.false, c.len.ensures)))
          c.run_at-size.ensures.is (c.run_at-size.ensures.some (omega (arith, c.if-len-eq0.false, c.len.ensures))),
      ← c.if-all_equal.ensures,
    ) refl
