use Rattle.std.proofs.Common.{◌∙◌, sym, arith}
use Rattle.mp4_mux.specs.Columns.{values_of}
use Rattle.mp4_mux.proofs.ColumnRuns.{some-runs, changes-none, changes-first, changes-same, changes-other, changes-end}
use Rattle.mp4_mux.proofs.ColumnRuns.{changes-small}
use Rattle.mp4_mux.proofs.runs.run_count.Goals as goal

pub returns-then-len-eq0 : goal.returns-then-len-eq0
returns-then-len-eq0 g c =
    changes-none g.T.PartialEq.eq (values_of c.args.column.now) (omega (arith, c.if-len-eq0.true, c.len.ensures))

pub run_at-requires : goal.run_at-requires
run_at-requires g c = some-runs c.args.column.now (omega (arith, c.if-len-eq0.false, c.len.ensures))

pub loop-i-init : goal.loop-i-init
loop-i-init g c =
    changes-first g.T.PartialEq.eq g.met.T.Eq.laws.refl c.args.column.now c.run_at.result
    (some-runs c.args.column.now (omega (arith, c.if-len-eq0.false, c.len.ensures))) c.run_at.ensures.is
    (c.run_at.ensures.some (omega (arith, c.if-len-eq0.false, c.len.ensures)))

pub loop-i-preserved-then-is_same : goal.loop-i-preserved-then-is_same
loop-i-preserved-then-is_same g c =
    omega (
      arith,
      c.loop-i.invariant,
      changes-same g.T.PartialEq.eq g.met.T.Eq.laws.refl c.args.column.now c.loop-i.i c.loop-i.value c.run_at-next.result
          (omega (arith, c.loop-i-test.true, c.run_count-i-end.ensures)) c.run_at-next.ensures.is
          (sym (g.met.T.ExactEq.exact c.run_at-next.result.value c.loop-i.value (sym c.if-is_same.ensures))),
    )

pub overflow_add-count : goal.overflow_add-count
overflow_add-count g c =
    omega (
      arith,
      c.loop-i.invariant,
      changes-other g.T.PartialEq.eq g.met.T.Eq.laws.refl c.args.column.now c.loop-i.i c.loop-i.value c.run_at-next.result
          (omega (arith, c.loop-i-test.true, c.run_count-i-end.ensures)) c.run_at-next.ensures.is
          (g.met.T.Eq.laws.symm c.loop-i.value c.run_at-next.result.value ∙ sym c.if-is_same.ensures) (c.run_at-next.ensures.some (omega (arith, c.if-len-eq0.false, c.len.ensures))),
      changes-small g.T.PartialEq.eq (values_of c.args.column.now),
      c.len.ensures,
      c.len.type_inv,
    )

pub loop-i-preserved : goal.loop-i-preserved
loop-i-preserved g c =
    omega (
      arith,
      c.loop-i.invariant,
      changes-other g.T.PartialEq.eq g.met.T.Eq.laws.refl c.args.column.now c.loop-i.i c.loop-i.value c.run_at-next.result
          (omega (arith, c.loop-i-test.true, c.run_count-i-end.ensures)) c.run_at-next.ensures.is
          (g.met.T.Eq.laws.symm c.loop-i.value c.run_at-next.result.value ∙ sym c.if-is_same.ensures) (c.run_at-next.ensures.some (omega (arith, c.if-len-eq0.false, c.len.ensures))),
    )

pub returns : goal.returns
returns g c =
    omega (
      arith,
      c.loop-i.invariant,
      changes-end g.T.PartialEq.eq g.met.T.Eq.laws.refl c.args.column.now c.loop-i.i c.loop-i.value
          (omega (arith, c.loop-i-test.false, c.run_count-i-end.ensures)),
    )
