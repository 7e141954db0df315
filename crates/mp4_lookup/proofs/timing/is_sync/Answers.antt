use Rattle.mp4_lookup.proofs.Searches.{strictly_rise}
use Rattle.mp4_lookup.proofs.timing.is_sync.Goals as goal

pub contains-requires-clause-rises : goal.contains-requires-clause-rises
contains-requires-clause-rises g c =
    let index = c.args.index.now in
    strictly_rise index.sync_numbers (rw c.requires.sync (c.requires.rises.0 c.if-index.true))
