use Rattle.std.proofs.Common.{sym}
use Rattle.mp4_media.specs.WriterCalls.{call_of}
use Rattle.std.proofs.lemmas.Result.{err_from_is_err_and}
use Rattle.mp4_script.proofs.Scripted.{no_call, no_calls, its_answer, its_call}
use Rattle.mp4_script.proofs.script.run_line.Goals as goal

pub returns-then-is_empty-clause-fits : goal.returns-then-is_empty-clause-fits
returns-then-is_empty-clause-fits c = no_calls c.args.line.now c.if-is_empty.ensures

pub returns-in_err-call-clause-answer : goal.returns-in_err-call-clause-answer
returns-in_err-call-clause-answer c =
    let p = err_from_is_err_and c.from_residual.result c.from_residual.ensures.1 in
    rw (p.1, p.2) (no_call c.args.number c.args.line.now c.if-is_empty.ensures c.in_err-call.field-0.0
    c.in_err-call.ensures.fault c.args.writer.now)

pub returns-clause-answer : goal.returns-clause-answer
returns-clause-answer c =
    its_answer c.args.number c.args.line.now (call_of c.in_ok-call.call) c.if-is_empty.ensures
    (sym c.in_ok-call.ensures.call) c.args.writer.now _ c.make_call.result c.make_call.ensures

pub returns-clause-fits : goal.returns-clause-fits
returns-clause-fits c =
    its_call c.args.number c.args.line.now (call_of c.in_ok-call.call) c.if-is_empty.ensures
    (sym c.in_ok-call.ensures.call) c.make_call.result c.in_ok-call.ensures.fits
