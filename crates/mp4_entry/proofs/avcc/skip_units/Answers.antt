use Rattle.std.proofs.lemmas.Result.{err_from_is_err_and}
use Rattle.mp4_codec.specs.Cause.{invalid_data}
use Rattle.mp4_entry.specs.Avcc.{after_units}
use Rattle.mp4_entry.proofs.Units.{goes_on, ends, is_done, one_read, no_length, too_short}
use Rattle.mp4_entry.proofs.avcc.skip_units.Goals as goal

pub returns-in_err-length : goal.returns-in_err-length
returns-in_err-length c =
    let p = err_from_is_err_and c.from_residual.result c.from_residual.ensures.1 in
    rw p.1 (ends c.args.count c.loop.counter c.loop.fields (after_units c.args.count c.args.fields.now)
    c.loop-test.true c.loop.invariant invalid_data (no_length c.loop.fields invalid_data c.in_err-length.ensures))

pub returns-in_err-bytes : goal.returns-in_err-bytes
returns-in_err-bytes c =
    let p = err_from_is_err_and c.from_residual-in_err-bytes.result c.from_residual-in_err-bytes.ensures.1 in
    rw p.1 (ends c.args.count c.loop.counter c.loop.fields (after_units c.args.count c.args.fields.now)
    c.loop-test.true c.loop.invariant invalid_data (too_short c.loop.fields c.u16.new.self c.in_ok-length.length
    invalid_data c.in_ok-length.ensures c.in_err-bytes.ensures))

pub loop-preserved : goal.loop-preserved
loop-preserved c =
    let part = c.in_ok-bytes.field-0.now in
    goes_on c.args.count c.loop.counter c.loop.fields (after_units c.args.count c.args.fields.now) c.loop-test.true
    c.loop.invariant (record { bytes = part }) c.bytes.new.self (one_read c.loop.fields c.u16.new.self part
    c.bytes.new.self c.in_ok-length.length c.in_ok-length.ensures c.in_ok-bytes.ensures)

pub returns : goal.returns
returns c =
    is_done c.args.count c.loop.counter c.loop.fields (after_units c.args.count c.args.fields.now)
    c.loop-test.false c.loop.invariant
