use Rattle.mp4_meta.specs.Meta.{HasCode}
use Rattle.mp4_meta.proofs.ChildBoxBytes.{all_more}
use Rattle.mp4_meta.proofs.meta.codes_in_range.Goals as goal

pub loop-child-preserved : goal.loop-child-preserved
loop-child-preserved c =
    all_more HasCode c.as_slice-child-items.result.now c.loop-child.child-index c.child-item.result
    c.loop-child-test.true c.child-item.is c.loop-child.invariant c.code_in_range.ensures
