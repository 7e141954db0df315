use Rattle.std.proofs.Common.{◌+◌, ◌-◌, get_or, refl, arith, ◌∙◌, rules, pos, w32}
use Rattle.std.specs.Prelude.{FitsSigned}
use Rattle.std.proofs.lemmas.Int.{to_z-of_z}
use Rattle.mp4_table.specs.declared.ctts.CttsEntry.{CttsEntry}
use Rattle.mp4_search.proofs.SumLaws.{counts_rise, before_found, past_found, none_found}
use Rattle.mp4_lookup.proofs.Steps.{all_before, offset_run}
use Rattle.mp4_lookup.proofs.timing.offset_run_at.Goals as goal

pub last_at_most-requires-clause-rises : goal.last_at_most-requires-clause-rises
last_at_most-requires-clause-rises g c =
    counts_rise (λ (r : CttsEntry). r.sample_count) c.args.runs.now c.args.counts.now c.requires.sums

pub past-requires-clause-past : goal.past-requires-clause-past
past-requires-clause-past g c =
    let none = none_found (λ (r : CttsEntry). r.sample_count) c.args.runs.now c.args.counts.now (c.args.k - 1)
    c.requires.sums (rw c.in_default.is at c.last_at_most.ensures.none) in
    all_before c.args.runs.now 0 (c.args.k - 1) (omega (arith, none)) (omega arith)

pub past-requires-then-earlier-run-clause-past : goal.past-requires-then-earlier-run-clause-past
past-requires-then-earlier-run-clause-past g c =
    let d : CttsEntry = record { sample_count = 0; sample_offset = pos 0 } in
    let i = c.in-Some.found.index in
    let found = rw c.in-Some.is at c.last_at_most.ensures.found in
    let past = past_found (λ (r : CttsEntry). r.sample_count) c.args.runs.now c.args.counts.now (c.args.k - 1) i d
    c.requires.sums (omega arith) found.0 (omega (arith, found.1, c.if-earlier-run.true)) in
    all_before c.args.runs.now (i + 1) (c.args.k - 1) past.0 past.1

pub returns-clause-run : goal.returns-clause-run
returns-clause-run g c =
    let d : CttsEntry = record { sample_count = 0; sample_offset = pos 0 } in
    let runs = c.args.runs.now in
    let i = c.in-Some.found.index in
    let found = rw c.in-Some.is at c.last_at_most.ensures.found in
    let before = before_found (λ (r : CttsEntry). r.sample_count) runs c.args.counts.now (c.args.k - 1) i
    c.requires.sums (omega arith) found.0 in
    let fits : FitsSigned w32 (get_or runs i d).sample_offset = search rules in
    offset_run runs c.args.k i _ d _ c.requires.first before.0 (found.1 ∙ before.1)
    (omega (arith, found.1, before.1, before.2)) (omega arith) (to_z-of_z w32 _ fits) refl
