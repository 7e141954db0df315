use Rattle.mp4_samples.specs.Tables.{ctts_runs}
use Rattle.mp4_lookup.specs.Tables.{walked}
use Rattle.mp4_lookup.proofs.timing.rendering_offset_in_order.Goals as goal
use Rattle.mp4_lookup.proofs.timing.rendering_offset_in_order.Goals.{then-run-eq0, else-run-eq0}

pub returns-clause-run : goal.returns-clause-run
returns-clause-run c =
    c.take.ensures.rest (ctts_runs (walked c.args.tables.now).ctts) c.args.k c.requires.first
    (elim c.if-run-eq0.branch [
      | then-run-eq0 w ↦ rw w.run-is w.move_to.ensures.run
      | else-run-eq0 w ↦ rw w.run-is c.requires.run
    ])
