use Rattle.std.proofs.Common.{lit<}
use Rattle.std.proofs.lemmas.Iterator.Splits.{YieldsList-from_str_split}
use Rattle.mp4_extract.specs.SubtitleTexts.{line_text, part_text}
use Rattle.mp4_extract.proofs.Parts.{parts_done, parts_more, parts_stop}
use Rattle.mp4_extract.proofs.Sinks.{stop_put}
use Rattle.mp4_extract.proofs.srt.put_line.Goals as goal

pub returns-in_err-put_part : goal.returns-in_err-put_part
unfolding line_text
returns-in_err-put_part g c =
    let loop = c.loop-part in
    let road = YieldsList-from_str_split {s = c.into_iter-part-iterator.result} 13 c.args.line.now (lit< tt)
    (cc) (cc) (cc) in
    stop_put _ _ _ c.from_residual.result c.from_residual.ensures.0
    (parts_stop (part_text c.args.before.now c.args.after.now) _ _ loop.yielded road _ loop.yielded_by loop.invariant _
    _ c.in-Some.part c.in-Some.is c.next.ensures.steps _ c.in_err-put_part.ensures)

pub loop-part-preserved : goal.loop-part-preserved
loop-part-preserved g c =
    parts_more (λ x. x.now) (part_text c.args.before.now c.args.after.now) _ _ _ c.loop-part.yielded c.in-Some.part
    c.loop-part.invariant c.in_ok-put_part.ensures

pub returns : goal.returns
unfolding line_text
returns g c =
    let loop = c.loop-part in
    let road = YieldsList-from_str_split {s = c.into_iter-part-iterator.result} 13 c.args.line.now (lit< tt)
    (cc) (cc) (cc) in
    parts_done (part_text c.args.before.now c.args.after.now) _ _ loop.yielded road _ loop.yielded_by loop.invariant _ _
    c.in-None.is c.next.ensures.steps
