use Rattle.mp4_media.proofs.Gathering.{defaults_kept}
use Rattle.mp4_media.proofs.fragments.defaults_by_id.Goals as goal

pub loop-trex-preserved : goal.loop-trex-preserved
loop-trex-preserved c =
    defaults_kept c.loop-trex.defaults c.insert.new.self c.args.trexs.now c.loop-trex.trex-index _
    c.of_trex.result c.loop-trex-test.true c.of_trex.ensures c.in_ok-insert.ensures.updates.0 c.loop-trex.invariant
