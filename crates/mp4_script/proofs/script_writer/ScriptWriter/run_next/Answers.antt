use Rattle.std.proofs.Common.{◌++◌, ℕ, List, sym, ap, subst, ◌∙◌}
use Rattle.mp4_media.specs.WriterFields.{KeptMovie, MayHold}
use Rattle.mp4_script.specs.Script.{line_step}
use Rattle.mp4_script.proofs.script_writer.ScriptWriter.run_next.Goals as goal

pub returns-clause-answer : goal.returns-clause-answer
returns-clause-answer g c = λ st h.
    let same = c.in_ok-keep.ensures.writer in
    let a = c.in_ok-run_line.ensures.answer st (subst (λ (w : KeptMovie). MayHold w st) (sym same) h) in
    let line = c.as_slice.ensures.value ∙ c.in_ok-keep.ensures.kept in (
      a.0,
      ap (λ (n : ℕ). line_step n (c.args.self.now.line.items ++ c.args.end.now) st) (sym c.saturating_add-number.ensures)
          ∙ ap (λ (l : List ℕ). line_step c.saturating_add-number.result l st) (sym line)
          ∙ a.1,
      a.2,
    )
