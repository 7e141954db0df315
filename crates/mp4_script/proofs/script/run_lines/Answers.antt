use Rattle.std.proofs.Common.{◌≡◌, ◌+◌, ◌<◌, ◌^◌, ◌≤◌, length, take, drop, ◌++◌, ◌∷◌, [], List, ℕ, rules, refl, sym, ap}
use Rattle.std.proofs.Common.{subst, ◌∙◌, arith}
use Rattle.std.specs.List.{AllByRecursion}
use Rattle.mp4_media.specs.Calls.{IsInRangeCall}
use Rattle.std.proofs.lemmas.List.{take_all, length-drop}
use Rattle.mp4_media.proofs.EndedStates.{all-append}
use Rattle.mp4_script.specs.Lines.{lines_of, lines_left}
use Rattle.mp4_script.specs.Script.{calls_in, run_from}
use Rattle.mp4_script.proofs.Cutting.{count-lines}
use Rattle.mp4_script.proofs.Scripted.{calls_in-append}
use Rattle.mp4_script.proofs.Steps.{lines_after, line_before, line_is_run, line_is_refused, all_are_run}
use Rattle.mp4_script.proofs.script.run_lines.Goals as goal

pub overflow_add-number : goal.overflow_add-number
overflow_add-number c =
    let bytes : length c.args.script.now < 2 ^ 63 = search rules in
    let lines = count-lines c.args.script.now in
    omega (arith, c.loop-line.invariant.numbered, lines, ap length c.in-Some.ensures.line, bytes)

pub loop-line-preserved : goal.loop-line-preserved
loop-line-preserved c =
    let n = c.loop-line.number in
    let lines = lines_of c.args.script.now in
    let line = c.in-Some.line.now in
    let others = lines_left c.next_line.new.self in
    let inv = c.loop-line.invariant in
    let left : drop n lines ≡ line ∷ others = inv.left ∙ c.in-Some.ensures.line in
    let calls : calls_in (take (n + 1) lines) ≡ calls_in (take n lines) ++ calls_in (line ∷ []) =
    ap calls_in (line_before n lines others line left) ∙ calls_in-append (take n lines) (line ∷ []) in
    record {
      numbered = omega (arith, inv.numbered, ap length c.in-Some.ensures.line);
      left = lines_after n lines others line left;
      ran = line_is_run c.args.script.now n others line c.args.writer.now c.loop-line.writer left inv.ran
          c.run_line.new.writer c.in_ok-run_line.ensures.answer;
      fits = subst (AllByRecursion IsInRangeCall) (sym calls)
          (all-append IsInRangeCall (calls_in (take n lines)) (calls_in (line ∷ [])) inv.fits
          c.in_ok-run_line.ensures.fits);
    }

pub returns-in_err-run_line-clause-answer : goal.returns-in_err-run_line-clause-answer
returns-in_err-run_line-clause-answer c =
    let n = c.loop-line.number in
    let others = lines_left c.next_line.new.self in
    let inv = c.loop-line.invariant in
    line_is_refused c.args.script.now n others c.in-Some.line.now c.args.writer.now c.loop-line.writer
    (inv.left ∙ c.in-Some.ensures.line) inv.ran c.in_err-run_line.field-0.0 _ c.from_residual.result (search rules)
    c.in_err-run_line.ensures.answer

pub returns-clause-answer : goal.returns-clause-answer
returns-clause-answer c =
    let inv = c.loop-line.invariant in
    all_are_run c.args.script.now c.loop-line.number c.args.writer.now c.loop-line.writer
    (inv.left ∙ c.in_default.ensures.line) inv.ran

pub returns-clause-fits : goal.returns-clause-fits
returns-clause-fits c =
    let lines = lines_of c.args.script.now in
    let past : length lines ≤ c.loop-line.number =
    omega (
      arith,
      ap length (c.loop-line.invariant.left ∙ c.in_default.ensures.line),
      length-drop c.loop-line.number lines,
    ) in
    subst (λ (ls : List (List ℕ)). AllByRecursion IsInRangeCall (calls_in ls)) (take_all c.loop-line.number lines past)
    c.loop-line.invariant.fits

pub loop-line-init : goal.loop-line-init
unfolding run_from calls_in
loop-line-init c = record {
  numbered = omega (arith, ap length c.new-lines.ensures);
  left = sym c.new-lines.ensures;
  ran = refl;
  fits = tt;
}
