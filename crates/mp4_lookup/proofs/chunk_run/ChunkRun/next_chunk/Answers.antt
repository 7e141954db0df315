use Rattle.std.proofs.Common.{◌≡◌, ◌+◌, arith, inr, rules}
use Rattle.mp4_lookup.proofs.ChunkRuns.{wrong_chunk_begins}
use Rattle.mp4_lookup.specs.Tables.{walked}
use Rattle.mp4_lookup.proofs.chunk_run.ChunkRun.next_chunk.Goals as goal

pub returns-in_default-clause-refused : goal.returns-in_default-clause-refused
returns-in_default-clause-refused c =
    let here = c.requires.chunk in
    let left = c.args.self.now.left in
    let same : c.args.k + left ≡ c.args.k = omega (arith, c.requires.none) in
    wrong_chunk_begins (walked c.args.tables.now) c.args.k (c.args.self.now.number + 1) c.args.self.now.run here.entry
    c.requires.has (rw same at here.after (omega (arith, c.requires.has, c.requires.none)))
    (inr (search rules))
