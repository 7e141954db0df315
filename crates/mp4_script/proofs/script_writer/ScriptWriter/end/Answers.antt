use Rattle.std.proofs.lemmas.Result.{err_from_is_err_and}
use Rattle.mp4_script.proofs.ScriptParts.{last_is_told, movie_is_there, end_is_told}
use Rattle.mp4_script.proofs.script_writer.ScriptWriter.end.Goals as goal

pub returns-in_err-run_next-clause-answer : goal.returns-in_err-run_next-clause-answer
returns-in_err-run_next-clause-answer g c = λ script st a short.
    let p = err_from_is_err_and c.from_residual.result c.from_residual.ensures.1 in
    rw (p.1, p.2)
    (last_is_told script st c.args.self.writer c.args.self.lines c.args.self.line.items a short (Unit {0})
    c.run_next.new.self.writer (λ sink. g.S.ByteSink.contents sink) (λ sink. g.S.ByteSink.len sink)
    c.in_err-run_next.field-0.0 (c.in_err-run_next.ensures.answer a.next a.may_hold))

pub returns-in-Ok-clause-answer : goal.returns-in-Ok-clause-answer
returns-in-Ok-clause-answer g c = λ script st a short.
    let run = c.in_ok-run_next.ensures.answer a.next a.may_hold in
    movie_is_there script st c.args.self.writer c.args.self.lines c.args.self.line.items a short run.0 run.1
    (λ sink. g.S.ByteSink.contents sink) (λ sink. g.S.ByteSink.len sink) c.into_inner.result
    (c.in-Ok.ensures.cause run.0 run.2) c.write_end.new.self (c.in-Ok.ensures.ok run.0 run.2)
    c.into_inner.ensures.contents c.into_inner.ensures.len

pub returns-clause-answer : goal.returns-clause-answer
returns-clause-answer g c = λ script st a short.
    let run = c.in_ok-run_next.ensures.answer a.next a.may_hold in
    end_is_told script st c.args.self.writer c.args.self.lines c.args.self.line.items a short run.0 run.1
    (λ sink. g.S.ByteSink.contents sink) (λ sink. g.S.ByteSink.len sink) c.run_next.new.self.writer run.2
    c.run_next.ensures.can_refuse c.in-Err.error c.refused_at_end.result c.refused_at_end.ensures
    (c.in-Err.ensures.cause run.0 run.2)
