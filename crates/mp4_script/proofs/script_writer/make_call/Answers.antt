use Rattle.mp4_media.specs.Calls.{step}
use Rattle.mp4_media.specs.WriterCalls.{call_of}
use Rattle.mp4_script.proofs.ScriptedSinks.{call_goes, call_fails}
use Rattle.mp4_script.proofs.script_writer.make_call.Goals as goal

pub returns-in-Ok-clause-answer : goal.returns-in-Ok-clause-answer
returns-in-Ok-clause-answer g c = λ st h. (
  step st (call_of c.args.call.now),
  call_goes c.args.number st (call_of c.args.call.now) (c.in-Ok.ensures.cause st h),
  c.in-Ok.ensures.ok st h,
)

pub returns-in-Err-clause-answer : goal.returns-in-Err-clause-answer
returns-in-Err-clause-answer g c = λ st h.
    call_fails (Unit {0}) c.args.number st (call_of c.args.call.now) _ c.perform.new.self c.in-Err.error
    c.refused.result c.refused.ensures (c.in-Err.ensures.cause st h)
