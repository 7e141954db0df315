use Rattle.std.proofs.Common.{◌-◌, ◌^◌}
use Rattle.mp4_codec.specs.ListLaws.{size-take_more}
use Rattle.mp4_entry.specs.Avcc.{unit}
use Rattle.mp4_entry.proofs.avcc.units_size.Goals as goal

pub loop-item-preserved : goal.loop-item-preserved
loop-item-preserved c =
    size-take_more unit c.as_slice-item-items.result.now c.loop-item.item-index c.item-item.result (2 ^ 64 - 1)
    c.loop-item.size c.size.result c.saturating_add-size.result c.loop-item-test.true c.item-item.is
    c.loop-item.invariant c.size.ensures c.saturating_add-size.ensures
