use Rattle.std.proofs.Common.{◌∙◌}
use Rattle.std.proofs.lemmas.Result.{err_from_is_err_and}
use Rattle.mp4_codec.specs.Cause.{cause_of}
use Rattle.mp4_codec.specs.ListLaws.{all_refusal-take_more, all_refusal-first}
use Rattle.mp4_codec.proofs.child_boxes.check_all.Goals as goal

pub returns-in_err-check : goal.returns-in_err-check
returns-in_err-check g c =
    let children = c.args.children.now in
    let p = err_from_is_err_and c.from_residual.result c.from_residual.ensures.1 in
    rw (p.1, p.2)
    (all_refusal-first g.B.WriteBox.refusal children c.loop-child.child-index c.child-item.result
    (cause_of c.in_err-check.field-0.0)
    c.loop-child-test.true c.child-item.is c.loop-child.invariant c.in_err-check.ensures)

pub loop-child-preserved : goal.loop-child-preserved
loop-child-preserved g c =
    let children = c.args.children.now in
    all_refusal-take_more g.B.WriteBox.refusal children c.loop-child.child-index c.child-item.result
    c.loop-child-test.true
    c.child-item.is c.loop-child.invariant
    ∙ c.in_ok-check.ensures
