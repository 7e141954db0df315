use Rattle.std.proofs.Common.{inr}
use Rattle.std.proofs.lemmas.Result.{err_from_is_err_and}
use Rattle.mp4_codec.specs.Cause.{invalid_data}
use Rattle.mp4_codec.specs.Bytes.{list_at, number_at}
use Rattle.mp4_codec.proofs.ListLoop.{goes_on, ends, is_done}
use Rattle.mp4_extract.proofs.text.read_units.Goals as goal

pub returns-in_err-unit-clause-units : goal.returns-in_err-unit-clause-units
returns-in_err-unit-clause-units c =
    let p = err_from_is_err_and c.from_residual.result c.from_residual.ensures.1 in
    let total = list_at (number_at 2) c.args.count c.args.fields.now in
    rw (p.1, p.2) (inr (ends (number_at 2) invalid_data c.loop.units c.args.count c.loop.counter c.loop.fields total
    c.loop-test.true c.in_err-unit.ensures c.loop.invariant))

pub loop-preserved : goal.loop-preserved
loop-preserved c =
    let total = list_at (number_at 2) c.args.count c.args.fields.now in
    rw c.in_ok-push.ensures.ok
    (goes_on (number_at 2) c.loop.units c.args.count c.loop.counter c.loop.fields c.in_ok-unit.unit c.u16.new.self total
    c.loop-test.true c.in_ok-unit.ensures c.loop.invariant)

pub returns-clause-units : goal.returns-clause-units
returns-clause-units c =
    let total = list_at (number_at 2) c.args.count c.args.fields.now in
    is_done (number_at 2) c.loop.units c.args.count c.loop.counter c.loop.fields total c.loop-test.false
    c.loop.invariant
