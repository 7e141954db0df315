use Rattle.mp4_faults.proofs.KnownIds.{ids-more}
use Rattle.mp4_faults.proofs.ids.ids_of.Goals as goal

pub loop-trak-preserved : goal.loop-trak-preserved
loop-trak-preserved c =
    ids-more c.loop-trak.ids c.insert.new.self c.args.traks.now c.loop-trak.trak-index c.trak-item.result
    c.loop-trak-test.true c.trak-item.is c.in_ok-insert.ensures.updates.0 c.loop-trak.invariant
