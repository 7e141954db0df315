use Rattle.mp4_media.specs.WriterCalls.{call_of}
use Rattle.mp4_script.proofs.Scripted.{no_call}
use Rattle.mp4_script.proofs.ScriptedSinks.{empty_line, line_answers}
use Rattle.mp4_script.proofs.script_writer.run_line.Goals as goal

pub returns-then-is_empty-clause-answer : goal.returns-then-is_empty-clause-answer
returns-then-is_empty-clause-answer g c = λ st h. (st, empty_line c.args.number c.args.line.now c.if-is_empty.ensures st, h)

pub returns-in-Err-clause-answer : goal.returns-in-Err-clause-answer
returns-in-Err-clause-answer g c = λ st h.
    no_call c.args.number c.args.line.now c.if-is_empty.ensures c.in-Err.fault c.in-Err.ensures.fault st

pub returns-in-Ok-clause-answer : goal.returns-in-Ok-clause-answer
returns-in-Ok-clause-answer g c = λ st h.
    line_answers c.args.number c.args.line.now (call_of c.in-Ok.call) c.if-is_empty.ensures
    c.in-Ok.ensures.call st _ c.make_call.new.writer c.make_call.result (c.make_call.ensures.answer st h)
