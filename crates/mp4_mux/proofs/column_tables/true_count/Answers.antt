use Rattle.std.proofs.Common.{arith}
use Rattle.std.proofs.lemmas.List.Sums.{count_by-le-length}
use Rattle.mp4_mux.specs.Columns.{values_of}
use Rattle.mp4_mux.proofs.ColumnRuns.{not-true, not-false, count-more, count-other, count-end}
use Rattle.mp4_mux.proofs.column_tables.true_count.Goals as goal

pub loop-i-preserved-then-not-run : goal.loop-i-preserved-then-not-run
loop-i-preserved-then-not-run c =
    omega (
      arith,
      c.loop-i.invariant,
      count-other c.args.column.now c.loop-i.i c.run_at-run.result
          (omega (arith, c.loop-i-test.true, c.run_count-i-end.ensures)) c.run_at-run.ensures.is (not-true c.run_at-run.result.value c.if-not-run.true),
    )

pub overflow_add-count : goal.overflow_add-count
overflow_add-count c =
    omega (
      arith,
      c.loop-i.invariant,
      count-more c.args.column.now c.loop-i.i c.run_at-run.result
          (omega (arith, c.loop-i-test.true, c.run_count-i-end.ensures)) c.run_at-run.ensures.is (not-false c.run_at-run.result.value c.if-not-run.false),
      count_by-le-length (λ b. b) (values_of c.args.column.now),
      c.len.ensures,
      c.len.type_inv,
    )

pub loop-i-preserved : goal.loop-i-preserved
loop-i-preserved c =
    omega (
      arith,
      c.loop-i.invariant,
      count-more c.args.column.now c.loop-i.i c.run_at-run.result
          (omega (arith, c.loop-i-test.true, c.run_count-i-end.ensures)) c.run_at-run.ensures.is (not-false c.run_at-run.result.value c.if-not-run.false),
    )

pub returns : goal.returns
returns c =
    omega (arith, c.loop-i.invariant, count-end c.args.column.now c.loop-i.i (omega (arith, c.loop-i-test.false, c.run_count-i-end.ensures)))
