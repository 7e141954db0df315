use Rattle.std.proofs.Common.{◌∙◌}
use Rattle.std.proofs.lemmas.Result.{err_from_is_err_and}
use Rattle.mp4_codec.specs.Cause.{cause_of}
use Rattle.mp4_codec.specs.ListLaws.{all_refusal-take_more, all_refusal-first}
use Rattle.mp4_entry.specs.Avcc.{unit_refusal}
use Rattle.mp4_entry.proofs.avcc.check_units.Goals as goal

pub returns-in_err-check : goal.returns-in_err-check
returns-in_err-check c =
    let units = c.as_slice-item-items.result.now in
    let p = err_from_is_err_and c.from_residual.result c.from_residual.ensures.1 in
    rw (p.1, p.2, ← c.as_slice-item-items.ensures)
    (all_refusal-first unit_refusal units c.loop-item.item-index c.item-item.result
    (cause_of c.in_err-check.field-0.0)
    c.loop-item-test.true c.item-item.is c.loop-item.invariant c.in_err-check.ensures)

pub loop-item-preserved : goal.loop-item-preserved
loop-item-preserved c =
    let units = c.as_slice-item-items.result.now in
    all_refusal-take_more unit_refusal units c.loop-item.item-index c.item-item.result c.loop-item-test.true
    c.item-item.is c.loop-item.invariant
    ∙ c.in_ok-check.ensures
