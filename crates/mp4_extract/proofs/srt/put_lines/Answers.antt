use Rattle.std.proofs.Common.{lit<}
use Rattle.std.proofs.lemmas.Iterator.Splits.{YieldsList-from_str_split}
use Rattle.mp4_extract.specs.SubtitleTexts.{line_text, lines_text}
use Rattle.mp4_extract.proofs.Parts.{parts_done, parts_more, parts_stop}
use Rattle.mp4_extract.proofs.Sinks.{stop_put}
use Rattle.mp4_extract.proofs.srt.put_lines.Goals as goal

pub returns-in_err-put_line : goal.returns-in_err-put_line
unfolding lines_text
returns-in_err-put_line g c =
    let loop = c.loop-line in
    let road = YieldsList-from_str_split {s = c.into_iter-line-iterator.result} 10 c.args.text.now (lit< tt)
    (cc) (cc) (cc) in
    stop_put _ _ _ c.from_residual.result c.from_residual.ensures.0
    (parts_stop (line_text c.args.before.now c.args.after.now) _ _ loop.yielded road _ loop.yielded_by loop.invariant _
    _ c.in-Some.line c.in-Some.is c.next.ensures.steps _ c.in_err-put_line.ensures)

pub loop-line-preserved : goal.loop-line-preserved
loop-line-preserved g c =
    parts_more (λ x. x.now) (line_text c.args.before.now c.args.after.now) _ _ _ c.loop-line.yielded c.in-Some.line
    c.loop-line.invariant c.in_ok-put_line.ensures

pub returns : goal.returns
unfolding lines_text
returns g c =
    let loop = c.loop-line in
    let road = YieldsList-from_str_split {s = c.into_iter-line-iterator.result} 10 c.args.text.now (lit< tt)
    (cc) (cc) (cc) in
    parts_done (line_text c.args.before.now c.args.after.now) _ _ loop.yielded road _ loop.yielded_by loop.invariant _ _
    c.in-None.is c.next.ensures.steps
