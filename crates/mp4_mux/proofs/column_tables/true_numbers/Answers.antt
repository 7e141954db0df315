use Rattle.std.proofs.Common.{◌∙◌, ◌++◌, ap, sym, arith, List, ℕ}
use Rattle.mp4_mux.proofs.ColumnRuns.{not-true, not-false, length-rest, numbers-other, numbers-true, numbers-end}
use Rattle.mp4_mux.proofs.column_tables.true_numbers.Goals as goal

pub overflow_add-before : goal.overflow_add-before
overflow_add-before c =
    omega (
      arith,
      c.loop-i.invariant.before,
      length-rest c.args.column.now c.loop-i.i c.run_at-run.result
          (omega (arith, c.loop-i-test.true, c.run_count-i-end.ensures)) c.run_at-run.ensures.is,
      c.len.ensures,
      c.len.type_inv,
    )

pub loop-i-preserved-then-not-run : goal.loop-i-preserved-then-not-run
loop-i-preserved-then-not-run c = record {
  so_far = ap (λ (ns : List ℕ). c.loop-i.numbers.items ++ ns)
      (numbers-other c.args.column.now c.loop-i.i c.run_at-run.result
      (omega (arith, c.loop-i-test.true, c.run_count-i-end.ensures)) c.run_at-run.ensures.is c.loop-i.before
      (not-true c.run_at-run.result.value c.if-not-run.true))
      ∙ c.loop-i.invariant.so_far;
  before =
      omega (
        arith,
        c.loop-i.invariant.before,
        length-rest c.args.column.now c.loop-i.i c.run_at-run.result
            (omega (arith, c.loop-i-test.true, c.run_count-i-end.ensures)) c.run_at-run.ensures.is,
      );
}

pub push_numbers-requires : goal.push_numbers-requires
push_numbers-requires c =
    omega (
      arith,
      c.loop-i.invariant.before,
      length-rest c.args.column.now c.loop-i.i c.run_at-run.result
          (omega (arith, c.loop-i-test.true, c.run_count-i-end.ensures)) c.run_at-run.ensures.is,
      c.len.ensures,
      c.len.type_inv,
    )

pub loop-i-preserved : goal.loop-i-preserved
loop-i-preserved c = record {
  so_far = rw c.in_ok-push_numbers.ensures
      (numbers-true c.args.column.now c.loop-i.i c.run_at-run.result
      (omega (arith, c.loop-i-test.true, c.run_count-i-end.ensures)) c.run_at-run.ensures.is
      c.loop-i.numbers.items c.loop-i.before (not-false c.run_at-run.result.value c.if-not-run.false)
      ∙ c.loop-i.invariant.so_far);
  before =
      omega (
        arith,
        c.loop-i.invariant.before,
        length-rest c.args.column.now c.loop-i.i c.run_at-run.result
            (omega (arith, c.loop-i-test.true, c.run_count-i-end.ensures)) c.run_at-run.ensures.is,
      );
}

pub returns : goal.returns
returns c =
    sym (numbers-end c.args.column.now c.loop-i.numbers.items c.loop-i.before c.loop-i.i
    (omega (arith, c.loop-i-test.false, c.run_count-i-end.ensures)))
    ∙ c.loop-i.invariant.so_far
