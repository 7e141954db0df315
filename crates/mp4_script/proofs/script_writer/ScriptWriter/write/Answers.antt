use Rattle.std.proofs.Common.{◌++◌, refl, sym, ◌∙◌}
use Rattle.std.proofs.lemmas.Result.{err_from_is_err_and}
use Rattle.mp4_script.proofs.ScriptParts.{begins, goes_on, fault_is_told, kept_answers}
use Rattle.mp4_script.proofs.script_writer.ScriptWriter.write.Goals as goal

pub returns-in_err-run_next-clause-answer : goal.returns-in_err-run_next-clause-answer
returns-in_err-run_next-clause-answer g c = λ script st a short.
    let h = c.loop-line.invariant.goes_on script st a short in
    let p = err_from_is_err_and c.from_residual.result c.from_residual.ensures.1 in
    rw (p.1, p.2)
    (fault_is_told (script ++ c.args.part.now) st c.loop-line.self.writer c.loop-line.self.lines
    c.loop-line.self.line.items c.loop-line.rest.now h short c.in-Some.line.now c.in-Some.after.now
    c.in-Some.ensures.parts (Unit {0}) c.run_next.new.self.writer c.run_next.new.self.writer.media.can_refuse
    (sym c.run_next.ensures.can_refuse) c.in_err-run_next.field-0.0
    (c.in_err-run_next.ensures.answer h.next h.may_hold))

pub loop-line-preserved : goal.loop-line-preserved
loop-line-preserved g c = record {
  goes_on = λ script st a short.
      let h = c.loop-line.invariant.goes_on script st a short in
      let run = c.in_ok-run_next.ensures.answer h.next h.may_hold in
      goes_on (script ++ c.args.part.now) st c.loop-line.self.writer c.loop-line.self.lines
      c.loop-line.self.line.items c.loop-line.rest.now h short c.in-Some.line.now c.in-Some.after.now
      c.in-Some.ensures.parts c.run_next.new.self.writer c.run_next.new.self.lines c.run_next.new.self.line.items
      c.in_ok-run_next.ensures.line c.in_ok-run_next.ensures.lines run.0 run.1 run.2;
  can_refuse = c.run_next.ensures.can_refuse ∙ c.loop-line.invariant.can_refuse;
}

pub loop-line-init : goal.loop-line-init
loop-line-init g c = record {
  goes_on = λ script st a short.
      begins script c.args.part.now st c.args.self.now.writer c.args.self.now.lines c.args.self.now.line.items a;
  can_refuse = refl;
}

pub returns-clause-answer : goal.returns-clause-answer
returns-clause-answer g c = λ script st a short.
    let h = c.loop-line.invariant.goes_on script st a short in
    kept_answers (script ++ c.args.part.now) st c.loop-line.self.writer c.loop-line.self.lines
    c.loop-line.self.line.items c.loop-line.rest.now h short c.in_default.ensures.last c.keep.result
    c.keep.new.self.writer c.keep.new.self.lines c.keep.new.self.line.items c.keep.ensures.kept
    c.keep.ensures.memory c.keep.ensures.writer c.keep.ensures.lines
