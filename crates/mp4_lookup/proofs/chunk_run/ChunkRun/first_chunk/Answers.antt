use Rattle.std.proofs.Common.{arith, inl}
use Rattle.std.proofs.lemmas.Result.{err_from_is_err_and}
use Rattle.mp4_lookup.proofs.ChunkRuns.{wrong_chunk_begins}
use Rattle.mp4_lookup.proofs.Steps.{begins_entry, located_refused, unusable}
use Rattle.mp4_lookup.specs.Tables.{walked}
use Rattle.mp4_lookup.proofs.chunk_run.ChunkRun.first_chunk.Goals as goal

pub returns-in_err-check_usable-clause-refused : goal.returns-in_err-check_usable-clause-refused
returns-in_err-check_usable-clause-refused c =
    let p = err_from_is_err_and c.from_residual.result c.from_residual.ensures.1 in
    let t = walked c.args.tables.now in
    let run = c.args.run in
    let k = c.args.k in
    let at = c.requires.samples in
    let refused = c.in_err-check_usable.ensures.refused in
    rw (p.1, p.2, refused.1)
    (located_refused t k _ (unusable t.stsc.entries k run.entry
    (omega (arith, at.first (omega (arith, c.requires.first, c.requires.has)), c.requires.first))
    (at.last k (omega (arith, c.requires.first)) c.requires.has) refused.0))

pub returns-then-number-eq0-clause-refused : goal.returns-then-number-eq0-clause-refused
returns-then-number-eq0-clause-refused c =
    wrong_chunk_begins (walked c.args.tables.now) c.args.k c.args.run.entry.first_chunk c.args.run c.requires.samples
    c.requires.has
    (begins_entry c.args.run.entry c.args.k c.requires.first c.in_ok-check_usable.ensures.some)
    (inl c.if-number-eq0.true)
