use Rattle.std.proofs.Common.{get_or, arith}
use Rattle.std.proofs.lemmas.Result.{err_from_is_err_and}
use Rattle.mp4_table.specs.declared.stsc.StscEntry.{StscEntry}
use Rattle.mp4_lookup.proofs.EntryLaws.{first_samples_positive}
use Rattle.mp4_lookup.proofs.Searches.{first_sample_found, last_where-searched}
use Rattle.mp4_lookup.proofs.Steps.{entry_is, unusable}
use Rattle.mp4_lookup.proofs.located.entry_at.Goals as goal

no_entry : StscEntry
no_entry = record { first_chunk = 0; samples_per_chunk = 0; sample_description_index = 0; first_sample = 0 }

pub returns-in_err-check_usable-clause-entry : goal.returns-in_err-check_usable-clause-entry
unfolding no_entry
returns-in_err-check_usable-clause-entry g c =
    let entries = c.args.entries.now in
    let some = last_where-searched (λ (e : StscEntry). e.first_sample) entries c.args.k
    c.in_ok-index.index no_entry (rw c.requires.index at c.in_ok-index.ensures.found) in
    let p = err_from_is_err_and c.from_residual-in_err-check_usable.result
    c.from_residual-in_err-check_usable.ensures.1 in
    rw (p.1, p.2, c.in_err-check_usable.ensures.refused.1)
    (unusable entries c.args.k (get_or entries c.in_ok-index.index no_entry) c.in_ok-index.ensures.counts some
    c.in_err-check_usable.ensures.refused.0)

pub returns-clause-entry : goal.returns-clause-entry
unfolding no_entry
returns-clause-entry g c =
    let entries = c.args.entries.now in
    let at = rw c.requires.index at c.in_ok-index.ensures.found in
    let small = first_sample_found entries c.args.k c.in_ok-index.index no_entry at in
    entry_is entries c.args.k c.args.k c.in_ok-index.index no_entry c.requires.firsts at small.1 (omega arith)
    c.in_ok-check_usable.ensures.some

pub returns-clause-same : goal.returns-clause-same
unfolding no_entry
returns-clause-same g c = λ n from to.
    let entries = c.args.entries.now in
    let at = rw c.requires.index at c.in_ok-index.ensures.found in
    entry_is entries c.args.k n c.in_ok-index.index no_entry c.requires.firsts at from to
    c.in_ok-check_usable.ensures.some

pub returns-clause-usable : goal.returns-clause-usable
unfolding no_entry
returns-clause-usable g c =
    let entries = c.args.entries.now in
    let small = first_sample_found entries c.args.k c.in_ok-index.index no_entry
    (rw c.requires.index at c.in_ok-index.ensures.found) in (
      first_samples_positive entries c.requires.firsts c.in_ok-index.index no_entry small.0,
      small.1,
      c.in_ok-check_usable.ensures.some,
    )
