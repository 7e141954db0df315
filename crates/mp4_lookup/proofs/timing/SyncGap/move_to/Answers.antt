use Rattle.mp4_lookup.proofs.Searches.{strictly_rise}
use Rattle.mp4_lookup.proofs.timing.SyncGap.move_to.Goals as goal

pub next_gap-requires-clause-rises : goal.next_gap-requires-clause-rises
next_gap-requires-clause-rises c = strictly_rise c.args.numbers.now c.requires.rises
