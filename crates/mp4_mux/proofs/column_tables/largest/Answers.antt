use Rattle.std.proofs.Common.{◌∙◌, arith}
use Rattle.mp4_mux.proofs.ColumnRuns.{max-more, max-end}
use Rattle.mp4_mux.proofs.column_tables.largest.Goals as goal

pub loop-i-preserved : goal.loop-i-preserved
loop-i-preserved c =
    rw c.max-largest.ensures
    (max-more c.args.column.now c.loop-i.largest c.loop-i.i c.run_at.result
    (omega (arith, c.loop-i-test.true, c.run_count-i-end.ensures)) c.run_at.ensures.is
    (c.run_at.ensures.some (omega (arith, c.if-len-eq0.false, c.len.ensures)))
    ∙ c.loop-i.invariant)

pub returns : goal.returns
returns c =
    max-end c.args.column.now c.loop-i.largest c.loop-i.i (omega (arith, c.loop-i-test.false, c.run_count-i-end.ensures))
    ∙ c.loop-i.invariant
