use Rattle.std.proofs.Common.{◌≡◌, ◌∙◌, ◌+◌, ◌<◌, length, get_or, map, refl, ap, arith, ⊎_elim}
use Rattle.std.proofs.lemmas.Bool.{cases_lt, lt-ltb}
use Rattle.std.proofs.lemmas.List.{get_or-map, length-map}
use Rattle.mp4_table.specs.declared.stsc.StscEntry.{StscEntry}
use Rattle.mp4_lookup.proofs.Searches.{first_sample_found}
use Rattle.mp4_lookup.proofs.Steps.{entry_run}
use Rattle.mp4_lookup.proofs.chunk_run.EntryRun.of.Goals as goal
use Rattle.mp4_lookup.proofs.chunk_run.EntryRun.of.Goals.{in-Some, in-None}

no_entry : StscEntry
no_entry = record { first_chunk = 0; samples_per_chunk = 0; sample_description_index = 0; first_sample = 0 }

ends : (c : goal.After-result-1) (e : StscEntry) → c.args.index + 1 < length c.args.entries.now
    → c.match-get.end ≡ (get_or c.args.entries.now (c.args.index + 1) e).first_sample
ends c e there = elim c.match-get.branch [
  | in-Some w ↦ w.end-is ∙ w.from-end.ensures ∙ ap (λ (x : StscEntry). x.first_sample) (w.in-Some.ensures.lookup.3.1 e)
  | in-None w ↦ absurd (let wrong = w.in-None.ensures.lookup.0 ∙ lt-ltb _ _ there in cc)
]

pub returns-clause-samples : goal.returns-clause-samples
unfolding no_entry
returns-clause-samples c =
    entry_run c.args.entries.now c.args.index no_entry _ c.requires.firsts c.requires.within refl (ends c)

pub returns-clause-has : goal.returns-clause-has
unfolding no_entry
returns-clause-has c = λ k small at.
    let entries = c.args.entries.now in
    let found = first_sample_found entries k c.args.index no_entry at in (
      found.1,
      ⊎_elim
          (λ (h : c.args.index + 1 < length entries).
          let many : c.args.index + 1 < length (map (λ (e : StscEntry). e.first_sample) entries) = rw length-map h in
          rw (ends c no_entry h) (rw
          (← get_or-map (λ (e : StscEntry). e.first_sample) entries (c.args.index + 1) no_entry 0 h)
          (at.later (c.args.index + 1) (omega arith) many)))
          (λ past. elim c.match-get.branch [
            | in-Some w ↦ absurd (omega (arith, past, w.in-Some.ensures.lookup.3.0))
            | in-None w ↦ omega (arith, w.end-is, small)
          ])
          (cases_lt (c.args.index + 1) (length entries)),
    )
