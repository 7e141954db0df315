use Rattle.std.proofs.Common.{ap₂, ◌+◌, ◌*◌, ◌∙◌}
use Rattle.mp4_lookup.proofs.Times.{lasted_in, lasted_all}
use Rattle.mp4_lookup.proofs.timing.end_after.Goals as goal

pub returns-then-left-run : goal.returns-then-left-run
returns-then-left-run c =
    ap₂ (λ m n. c.loop-run.end + m * n) c.from.ensures c.from-then-left-run.ensures
    ∙ lasted_in c.args.runs.now c.args.count c.loop-run.run-index c.loop-run.left c.loop-run.end _ c.loop-run-test.true
    c.loop-run.invariant.counted c.loop-run.invariant.lasted c.if-left-run.true

pub returns : goal.returns
returns c =
    lasted_all c.args.runs.now c.args.count c.loop-run.run-index c.loop-run.left c.loop-run.end c.loop-run-test.false
    c.loop-run.invariant.counted c.loop-run.invariant.lasted
