use Rattle.std.proofs.Common.{None}
use Rattle.std.proofs.lemmas.Result.{err_from_is_err_and}
use Rattle.mp4_codec.specs.Cause.{cause_of}
use Rattle.mp4_table.specs.Stsc.{runs_fault}
use Rattle.mp4_table.proofs.Runs.{goes_on, ends_short, ends, is_done}
use Rattle.mp4_table.proofs.stsc.check_runs.Goals as goal

pub returns-in_default : goal.returns-in_default
returns-in_default c =
    ends_short c.loop.before c.args.count c.loop.counter c.loop.fields
    (runs_fault None c.args.count c.args.fields.now) c.loop-test.true c.loop.invariant c.in_default.ensures

pub returns-in_err-first_sample : goal.returns-in_err-first_sample
returns-in_err-first_sample c =
    let p = err_from_is_err_and c.from_residual.result c.from_residual.ensures.1 in
    rw (p.1, p.2) (ends c.loop.before c.args.count c.loop.counter c.loop.fields
    (runs_fault None c.args.count c.args.fields.now) c.loop-test.true c.loop.invariant c.in-Ok.entry
    c.read.new.fields (cause_of c.in_err-first_sample.field-0.0) c.in-Ok.ensures c.in_err-first_sample.ensures)

pub loop-preserved : goal.loop-preserved
loop-preserved c =
    goes_on c.loop.before c.args.count c.loop.counter c.loop.fields (runs_fault None c.args.count c.args.fields.now)
    c.loop-test.true c.loop.invariant c.in-Ok.entry c.read.new.fields c.in_ok-first_sample.first_sample
    c.in-Ok.ensures c.in_ok-first_sample.ensures

pub returns : goal.returns
returns c =
    is_done c.loop.before c.args.count c.loop.counter c.loop.fields (runs_fault None c.args.count c.args.fields.now)
    c.loop-test.false c.loop.invariant
