use Rattle.mp4_remux.proofs.HeldSamples.{none_held}
use Rattle.mp4_remux.proofs.track_tables.SampleTables.new.Goals as goal

pub returns-clause-held : goal.returns-clause-held
returns-clause-held c =
    none_held (record { samples = c.new.result; chunks = c.new-2.result; end = 0; duration = 0; shown = 0 })
    c.new.ensures c.new-2.ensures.items
