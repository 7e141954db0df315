use Rattle.std.proofs.Common.{sym, arith}
use Rattle.mp4_lookup.specs.Tables.{walked}
use Rattle.mp4_lookup.proofs.ChunkRuns.{first_is}
use Rattle.mp4_lookup.proofs.chunk_run.ChunkRun.take_sample.Goals as goal

pub returns-clause-located : goal.returns-clause-located
returns-clause-located c =
    rw c.take-offset.ensures.taken
    (first_is (walked c.args.tables.now) c.args.k c.in_ok-size.size c.args.self.now
    c.requires.chunk.0 c.requires.chunk.1
    (omega (arith, c.take-offset.ensures.taken, c.take-offset.type_inv)) (sym c.in_ok-size.ensures))
