use Rattle.std.proofs.Common.{refl, sym, arith}
use Rattle.mp4_lookup.proofs.ChunkRuns.{chunk_begins, no_chunk_begins}
use Rattle.mp4_lookup.specs.Tables.{walked}
use Rattle.mp4_lookup.proofs.chunk_run.ChunkRun.of.Goals as goal

pub returns-in_default-clause-none : goal.returns-in_default-clause-none
returns-in_default-clause-none c =
    no_chunk_begins (walked c.args.tables.now) c.args.k c.args.number c.args.run c.requires.samples c.requires.has
    c.requires.begins c.requires.counts (omega arith) (sym c.in_default.ensures)

pub returns-clause-chunk : goal.returns-clause-chunk
returns-clause-chunk c = (
  chunk_begins (walked c.args.tables.now) c.args.k c.args.number c.in-Some.offset _ c.requires.samples c.requires.has
      c.requires.begins c.requires.counts (omega arith) (sym c.in-Some.ensures) refl
      (rw (c.min-left.ensures, c.from.ensures, c.from-2.ensures) refl) refl,
  omega (arith, c.min-left.ensures, c.from.ensures, c.from-2.ensures, c.requires.begins.some, c.requires.has),
)
