use Rattle.std.proofs.Common.{◌∙◌, sym, arith}
use Rattle.mp4_mux.proofs.ColumnRuns.{all-more, all-not, all-end}
use Rattle.mp4_mux.proofs.column_tables.all_equal.Goals as goal

pub loop-i-preserved : goal.loop-i-preserved
loop-i-preserved g c =
    all-more (λ x. g.T.PartialEq.eq x c.args.value) c.args.column.now c.loop-i.i c.run_at.result
    (omega (arith, c.loop-i-test.true, c.run_count-i-end.ensures)) c.run_at.ensures.is (sym c.if-eq.ensures)
    ∙ c.loop-i.invariant

pub returns-in-loop-i : goal.returns-in-loop-i
returns-in-loop-i g c =
    all-not (λ x. g.T.PartialEq.eq x c.args.value) c.args.column.now c.loop-i.i c.run_at.result
    (omega (arith, c.loop-i-test.true, c.run_count-i-end.ensures)) c.run_at.ensures.is (sym c.if-eq.ensures)
    (c.run_at.ensures.some (omega (arith, c.if-len-eq0.false, c.len.ensures)))
    ∙ c.loop-i.invariant

pub returns : goal.returns
returns g c =
    all-end (λ x. g.T.PartialEq.eq x c.args.value) c.args.column.now c.loop-i.i
    (omega (arith, c.loop-i-test.false, c.run_count-i-end.ensures))
    ∙ c.loop-i.invariant
