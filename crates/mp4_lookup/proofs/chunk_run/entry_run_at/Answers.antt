use Rattle.std.proofs.Common.{arith}
use Rattle.std.proofs.lemmas.Result.{err_from_is_err_and}
use Rattle.mp4_samples.specs.Tables.{tables_of}
use Rattle.mp4_lookup.specs.Walk.{IsForSamples}
use Rattle.mp4_lookup.proofs.Steps.{unusable}
use Rattle.mp4_lookup.proofs.chunk_run.entry_run_at.Goals as goal

pub returns-in_err-check_usable-clause-refused : goal.returns-in_err-check_usable-clause-refused
returns-in_err-check_usable-clause-refused c =
    let p = err_from_is_err_and c.from_residual-in_err-check_usable.result
    c.from_residual-in_err-check_usable.ensures.1 in
    let track = c.args.track.now in
    let t = tables_of track.trak in
    let run = c.of-run.result in
    let at : IsForSamples t.stsc.entries run = rw c.as_slice-entries.ensures at c.of-run.ensures.samples in
    let has = c.of-run.ensures.has c.args.k (omega arith)
    (rw (track.indexed.first_samples, ← c.as_slice-entries.ensures) at c.in_ok-index.ensures.found) in
    let refused = c.in_err-check_usable.ensures.refused in
    rw (p.1, p.2, refused.1)
    (unusable t.stsc.entries c.args.k run.entry c.in_ok-index.ensures.counts (at.last c.args.k has.0 has.1) refused.0)

pub returns-clause-has : goal.returns-clause-has
returns-clause-has c =
    let has = c.of-run.ensures.has c.args.k (omega arith)
    (rw (c.args.track.now.indexed.first_samples, ← c.as_slice-entries.ensures) at c.in_ok-index.ensures.found) in
    (has.0, has.1, c.in_ok-check_usable.ensures.some)
