use Rattle.std.proofs.Common.{◌∙◌}
use Rattle.std.proofs.lemmas.Result.{err_from_is_err_and}
use Rattle.mp4_lookup.proofs.Steps.{of_both, of_no_chunk, of_refused, located_by_entry, located_refused}
use Rattle.mp4_lookup.proofs.located.chunk_at.Goals as goal

pub returns-in_err-entry-clause-refused : goal.returns-in_err-entry-clause-refused
returns-in_err-entry-clause-refused g c =
    let p = err_from_is_err_and c.from_residual.result c.from_residual.ensures.1 in
    rw (p.1, p.2) (located_refused c.args.stbl.now c.args.k _ (rw c.as_slice.ensures at c.in_err-entry.ensures.entry))

pub returns-clause-sample : goal.returns-clause-sample
returns-clause-sample g c =
    let t = c.args.stbl.now in
    of_both c.chunk_by.result _ _ _ c.chunk_by.ensures.inside c.chunk_by.ensures.samples (λ x inside samples. (
      inside.0,
      inside.1,
      located_by_entry t c.in_ok-entry.entry c.args.k (rw c.as_slice.ensures at c.in_ok-entry.ensures.entry)
          ∙ (samples c.args.k inside.1 inside.2).2,
    ))

pub returns-clause-none : goal.returns-clause-none
returns-clause-none g c =
    of_no_chunk c.chunk_by.result _ _ c.chunk_by.ensures.none (λ none.
    located_by_entry c.args.stbl.now c.in_ok-entry.entry c.args.k
    (rw c.as_slice.ensures at c.in_ok-entry.ensures.entry) ∙ none)

pub returns-clause-refused : goal.returns-clause-refused
returns-clause-refused g c =
    of_refused c.chunk_by.result _ _ c.chunk_by.ensures.refused (λ e refused.
    located_by_entry c.args.stbl.now c.in_ok-entry.entry c.args.k
    (rw c.as_slice.ensures at c.in_ok-entry.ensures.entry) ∙ refused)
