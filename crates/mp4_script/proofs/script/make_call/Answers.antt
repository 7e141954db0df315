use Rattle.mp4_media.specs.WriterCalls.{call_of}
use Rattle.mp4_script.proofs.Scripted.{call_was_made, call_was_refused}
use Rattle.mp4_script.proofs.script.make_call.Goals as goal

pub returns-in-Ok : goal.returns-in-Ok
returns-in-Ok c =
    call_was_made c.args.number c.args.writer.now (call_of c.args.call.now) c.perform.new.self c.in-Ok.ensures.cause
    c.in-Ok.ensures.after

pub returns-in-Err : goal.returns-in-Err
returns-in-Err c =
    call_was_refused c.args.number c.args.writer.now (call_of c.args.call.now) c.in-Err.error c.in-Err.ensures.cause
