use Rattle.std.proofs.Common.{◌+◌, ◌-◌, get_or, refl, arith}
use Rattle.mp4_table.specs.declared.stts.SttsEntry.{SttsEntry}
use Rattle.mp4_search.proofs.SumLaws.{counts_rise, past_found, none_found}
use Rattle.mp4_lookup.proofs.Times.{time_at_past}
use Rattle.mp4_lookup.proofs.Sums.{run_found, start_fits}
use Rattle.mp4_lookup.proofs.Steps.{time_run}
use Rattle.mp4_lookup.proofs.timing.time_run_at.Goals as goal

pub last_at_most-requires-clause-rises : goal.last_at_most-requires-clause-rises
last_at_most-requires-clause-rises g c =
    counts_rise (λ (r : SttsEntry). r.sample_count) c.args.runs.now c.args.counts.now c.requires.sums.counts

pub returns-in_default-clause-none : goal.returns-in_default-clause-none
returns-in_default-clause-none g c = λ id.
    let none = none_found (λ (r : SttsEntry). r.sample_count) c.args.runs.now c.args.counts.now (c.args.k - 1)
    c.requires.sums.counts (rw c.in_default.is at c.last_at_most.ensures.none) in
    time_at_past c.args.runs.now id c.args.k 0 0 c.requires.first (omega (arith, none)) refl
    (omega arith)

pub returns-then-earlier-run-clause-none : goal.returns-then-earlier-run-clause-none
returns-then-earlier-run-clause-none g c = λ id.
    let d : SttsEntry = record { sample_count = 0; sample_delta = 0 } in
    let i = c.in-Some.found.index in
    let found = rw c.in-Some.is at c.last_at_most.ensures.found in
    let past = past_found (λ (r : SttsEntry). r.sample_count) c.args.runs.now c.args.counts.now (c.args.k - 1) i d
    c.requires.sums.counts (omega arith) found.0 (omega (arith, found.1, c.if-earlier-run.true)) in
    time_at_past c.args.runs.now id c.args.k (i + 1) _ c.requires.first past.0 refl past.1

pub returns-clause-run : goal.returns-clause-run
returns-clause-run g c =
    let d : SttsEntry = record { sample_count = 0; sample_delta = 0 } in
    let i = c.in-Some.found.index in
    let found = rw c.in-Some.is at c.last_at_most.ensures.found in
    let there = run_found c.args.runs.now c.args.counts.now c.args.times.now c.args.k i c.in-Some.found.number
    c.requires.sums (omega arith) found.0 found.1 in (
      time_run c.args.runs.now c.args.k i c.in-Some.found.number (get_or c.args.times.now i 0) d _ c.requires.sums.small
          c.requires.first there.0 there.1 there.3 there.2 (omega (arith, c.if-earlier-run.false))
          (rw (c.from.ensures, c.from-2.ensures) refl) refl refl,
      omega (arith, c.if-earlier-run.false),
    )

pub overflow_add-result : goal.overflow_add-result
overflow_add-result g c =
    let d : SttsEntry = record { sample_count = 0; sample_delta = 0 } in
    let i = c.in-Some.found.index in
    let found = rw c.in-Some.is at c.last_at_most.ensures.found in
    let there = run_found c.args.runs.now c.args.counts.now c.args.times.now c.args.k i c.in-Some.found.number
    c.requires.sums (omega arith) found.0 found.1 in
    rw (c.from.ensures, c.from-2.ensures)
    (omega (
      arith,
      start_fits c.in-Some.found.number (get_or c.args.times.now i 0) c.args.k (get_or c.args.runs.now i d).sample_delta
          there.4 (c.requires.sums.small i d there.0) there.2 (omega arith),
    ))
