use Rattle.std.proofs.Common.{◌∙◌, ◌+◌, ◌++◌, [], ◌∷◌, ap, sym, append_assoc, arith}
use Rattle.mp4_mux.specs.Columns.{values_of}
use Rattle.mp4_mux.specs.SampleTables.{runs_from}
use Rattle.mp4_mux.proofs.ColumnRuns.{rest, some-runs, length-rest, length-first, runs-none, runs-first, runs-same}
use Rattle.mp4_mux.proofs.ColumnRuns.{runs-other, runs-end}
use Rattle.mp4_mux.proofs.runs.runs.Goals as goal

pub returns-then-len-eq0 : goal.returns-then-len-eq0
returns-then-len-eq0 g c =
    c.new-runs.ensures.items
    ∙ runs-none g.T.PartialEq.eq g.R.TableRun.run g.met.T.Eq.laws.refl (values_of c.args.column.now)
    (omega (arith, c.if-len-eq0.true, c.len.ensures))

pub run_at-first-requires : goal.run_at-first-requires
run_at-first-requires g c = some-runs c.args.column.now (omega (arith, c.if-len-eq0.false, c.len.ensures))

pub loop-i-init : goal.loop-i-init
loop-i-init g c =
    let there = some-runs c.args.column.now (omega (arith, c.if-len-eq0.false, c.len.ensures)) in
    record {
      so_far = rw c.new-runs.ensures.items
          (runs-first g.T.PartialEq.eq g.R.TableRun.run g.met.T.Eq.laws.refl c.args.column.now c.run_at-first.result there
          c.run_at-first.ensures.is (c.run_at-first.ensures.some (omega (arith, c.if-len-eq0.false, c.len.ensures))));
      count = omega (arith, length-first c.args.column.now c.run_at-first.result there c.run_at-first.ensures.is);
    }

pub overflow_add-count : goal.overflow_add-count
overflow_add-count g c =
    omega (
      arith,
      c.loop-i.invariant.count,
      length-rest c.args.column.now c.loop-i.i c.run_at-next.result
          (omega (arith, c.loop-i-test.true, c.run_count-i-end.ensures)) c.run_at-next.ensures.is,
      c.len.ensures,
      c.len.type_inv,
    )

pub loop-i-preserved-then-is_same : goal.loop-i-preserved-then-is_same
loop-i-preserved-then-is_same g c = record {
  so_far = ap (λ rest. c.loop-i.runs.items ++ rest)
      (sym (runs-same g.T.PartialEq.eq g.R.TableRun.run g.met.T.Eq.laws.refl c.args.column.now c.loop-i.count c.loop-i.i c.loop-i.value
      c.run_at-next.result
      (omega (arith, c.loop-i-test.true, c.run_count-i-end.ensures)) c.run_at-next.ensures.is
      (g.met.T.ExactEq.exact c.loop-i.value c.run_at-next.result.value (sym c.if-is_same.ensures))))
      ∙ c.loop-i.invariant.so_far;
  count = omega (
    arith,
    c.loop-i.invariant.count,
    length-rest c.args.column.now c.loop-i.i c.run_at-next.result
        (omega (arith, c.loop-i-test.true, c.run_count-i-end.ensures)) c.run_at-next.ensures.is,
  );
}

pub loop-i-preserved : goal.loop-i-preserved
loop-i-preserved g c =
    let done = c.loop-i.runs.items in
    let next = c.run_at-next.result in
    record {
      so_far = rw (c.in_ok-push.ensures.items, c.of.ensures)
          (append_assoc done (g.R.TableRun.run c.loop-i.count c.loop-i.value ∷ [])
          (runs_from g.T.PartialEq.eq g.R.TableRun.run next.count next.value (rest c.args.column.now (c.loop-i.i + 1)))
          ∙ ap (λ rest. done ++ rest)
          (sym (runs-other g.T.PartialEq.eq g.R.TableRun.run g.met.T.Eq.laws.refl c.args.column.now c.loop-i.count c.loop-i.i c.loop-i.value
          c.run_at-next.result
          (omega (arith, c.loop-i-test.true, c.run_count-i-end.ensures)) c.run_at-next.ensures.is
          (sym c.if-is_same.ensures) (c.run_at-next.ensures.some (omega (arith, c.if-len-eq0.false, c.len.ensures)))))
          ∙ c.loop-i.invariant.so_far);
      count = omega (
        arith,
        c.loop-i.invariant.count,
        length-rest c.args.column.now c.loop-i.i c.run_at-next.result
            (omega (arith, c.loop-i-test.true, c.run_count-i-end.ensures)) c.run_at-next.ensures.is,
      );
    }

pub returns : goal.returns
returns g c =
    rw (c.in_ok-push-2.ensures.items, c.of-2.ensures)
    (ap (λ rest. c.loop-i.runs.items ++ rest)
    (sym (runs-end g.T.PartialEq.eq g.R.TableRun.run g.met.T.Eq.laws.refl c.args.column.now c.loop-i.count c.loop-i.i c.loop-i.value
    (omega (arith, c.loop-i-test.false, c.run_count-i-end.ensures))))
    ∙ c.loop-i.invariant.so_far)
