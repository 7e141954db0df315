use Rattle.std.proofs.Common.{◌∙◌, refl, arith}
use Rattle.std.proofs.lemmas.Result.{err_from_is_err_and}
use Rattle.mp4_samples.specs.Tables.{tables_of}
use Rattle.mp4_lookup.proofs.ChunkRuns.{chunk_from}
use Rattle.mp4_lookup.proofs.Steps.{located_by_run, located_refused}
use Rattle.mp4_lookup.proofs.chunk_run.ChunkRun.search.Goals as goal

pub returns-in_err-run-clause-refused : goal.returns-in_err-run-clause-refused
returns-in_err-run-clause-refused c =
    let p = err_from_is_err_and c.from_residual.result c.from_residual.ensures.1 in
    rw (p.1, p.2) (located_refused (tables_of c.args.track.now.trak) c.args.k _ c.in_err-run.ensures.refused)

pub returns-in_err-chunk-clause-refused : goal.returns-in_err-chunk-clause-refused
returns-in_err-chunk-clause-refused c =
    let p = err_from_is_err_and c.from_residual-in_err-chunk.result c.from_residual-in_err-chunk.ensures.1 in
    let t = tables_of c.args.track.now.trak in
    let has = c.in_ok-run.ensures.has in
    rw (p.1, p.2)
    (located_by_run t c.in_ok-run.run' c.args.k c.in_ok-run.ensures.samples has.0 has.1 has.2
    ∙ c.in_err-chunk.ensures.refused)

pub returns-in_default-clause-none : goal.returns-in_default-clause-none
returns-in_default-clause-none c =
    let t = tables_of c.args.track.now.trak in
    let has = c.in_ok-run.ensures.has in
    located_by_run t c.in_ok-run.run' c.args.k c.in_ok-run.ensures.samples has.0 has.1 has.2
    ∙ rw c.in_default.is at c.in_ok-chunk.ensures.none

pub returns-in_err-sample-clause-refused : goal.returns-in_err-sample-clause-refused
returns-in_err-sample-clause-refused c =
    let p = err_from_is_err_and c.from_residual-in_err-sample.result c.from_residual-in_err-sample.ensures.1 in
    let t = tables_of c.args.track.now.trak in
    let has = c.in_ok-run.ensures.has in
    let inside = rw c.in-Some.is at c.in_ok-chunk.ensures.inside in
    let samples = rw c.in-Some.is at c.in_ok-chunk.ensures.samples in
    rw (p.1, p.2)
    (located_by_run t c.in_ok-run.run' c.args.k c.in_ok-run.ensures.samples has.0 has.1 has.2
    ∙ (samples c.args.k inside.1 inside.2).2 ∙ c.in_err-sample.ensures.located)

pub returns-in_default-2-clause-none : goal.returns-in_default-2-clause-none
returns-in_default-2-clause-none c =
    let t = tables_of c.args.track.now.trak in
    let has = c.in_ok-run.ensures.has in
    let inside = rw c.in-Some.is at c.in_ok-chunk.ensures.inside in
    let samples = rw c.in-Some.is at c.in_ok-chunk.ensures.samples in
    located_by_run t c.in_ok-run.run' c.args.k c.in_ok-run.ensures.samples has.0 has.1 has.2
    ∙ (samples c.args.k inside.1 inside.2).2 ∙ (rw c.in_default-2.is at c.in_ok-sample.ensures.located)

pub returns-clause-chunk : goal.returns-clause-chunk
returns-clause-chunk c =
    let t = tables_of c.args.track.now.trak in
    let has = c.in_ok-run.ensures.has in
    let inside = rw c.in-Some.is at c.in_ok-chunk.ensures.inside in
    let samples = rw c.in-Some.is at c.in_ok-chunk.ensures.samples in
    let after = rw c.in-Some.is at c.in_ok-chunk.ensures.after in
    let there = rw c.in-Some-2.is at c.in_ok-sample.ensures.located in (
      chunk_from t c.args.k c.in-Some-2.sample.size c.in-Some.chunk _ c.in_ok-run.ensures.samples has.2 samples inside
          after there refl (omega (arith, c.from.ensures, inside.2)),
      omega (arith, c.from.ensures, inside.2),
    )
