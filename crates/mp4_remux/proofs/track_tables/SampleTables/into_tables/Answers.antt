use Rattle.std.proofs.Common.{List, subst}
use Rattle.mp4_remux.specs.TrackTables.{AllFit, tables}
use Rattle.mp4_remux.specs.declared.chunks.Chunk.{Chunk}
use Rattle.mp4_remux.proofs.track_tables.SampleTables.into_tables.Goals as goal

pub returns-clause-fit : goal.returns-clause-fit
returns-clause-fit c =
    subst (λ (cs : List Chunk). AllFit (tables c.args.self.samples cs)) c.deref.ensures.value
    c.in_ok-put_tables.ensures.fit
