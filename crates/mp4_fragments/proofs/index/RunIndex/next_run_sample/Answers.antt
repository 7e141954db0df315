use Rattle.std.proofs.Common.{◌+◌, ◌<◌, length, refl, sym, ◌∙◌, arith}
use Rattle.mp4_fragments.specs.Index.{run_at, runs_of}
use Rattle.mp4_fragments.proofs.Cursors.{next_at, only_at, only_end}
use Rattle.mp4_fragments.proofs.Finding.{length-entries}
use Rattle.mp4_fragments.proofs.index.RunIndex.next_run_sample.Goals as goal

pub returns-in-Some-only-clause-run_sample : goal.returns-in-Some-only-clause-run_sample
returns-in-Some-only-clause-run_sample c =
    let index = c.args.self.now in
    let find = run_at c.args.trafs.now c.args.track in
    let runs = runs_of c.args.trafs.now c.args.track index in
    let many = length-entries find runs index c.requires.indexed in
    let got = c.in-Some.ensures.lookup in
    let within : c.args.end.entry + 1 < length index.entries = rw c.as_slice-entries.ensures at got.3.0 in
    only_at find c.as_slice-entries.result.now runs index c.in-Some.entry.now c.args.end c.in-Some-only.values _
    c.requires.indexed c.requires.end c.as_slice-entries.ensures got.1
    (omega (arith, within, many, c.requires.indexed.counts.count)) (sym c.only.ensures ∙ c.in-Some-only.is)
    (λ run defaults. rw (c.begin_at.ensures, ← c.at.ensures) (c.first_start.ensures run defaults))
    (rw c.begin_at.ensures refl) (rw c.begin_at.ensures refl) (rw c.begin_at.ensures refl)
    (rw c.begin_at.ensures refl)

pub returns-in-Some-only-clause-position : goal.returns-in-Some-only-clause-position
returns-in-Some-only-clause-position c =
    let index = c.args.self.now in
    let find = run_at c.args.trafs.now c.args.track in
    let runs = runs_of c.args.trafs.now c.args.track index in
    let many = length-entries find runs index c.requires.indexed in
    let got = c.in-Some.ensures.lookup in
    let within : c.args.end.entry + 1 < length index.entries = rw c.as_slice-entries.ensures at got.3.0 in
    only_end find c.as_slice-entries.result.now runs index c.in-Some.entry.now c.args.end _ c.in-Some-only.values
    c.requires.indexed c.requires.end c.as_slice-entries.ensures got.1
    (omega (arith, within, many, c.requires.indexed.counts.count)) (sym c.only.ensures ∙ c.in-Some-only.is)
    refl refl

pub returns-clause-run_sample : goal.returns-clause-run_sample
returns-clause-run_sample c =
    let index = c.args.self.now in
    let find = run_at c.args.trafs.now c.args.track in
    let runs = runs_of c.args.trafs.now c.args.track index in
    let many = length-entries find runs index c.requires.indexed in
    let got = c.in-Some.ensures.lookup in
    let within : c.args.end.entry + 1 < length index.entries = rw c.as_slice-entries.ensures at got.3.0 in
    let next = next_at find c.as_slice-entries.result.now runs index c.in-Some.entry.now c.args.end c.cursor_in.result
    c.requires.indexed c.requires.end c.as_slice-entries.ensures got.1
    (omega (arith, within, many, c.requires.indexed.counts.count)) c.cursor_in.ensures.some in
    let found = rw c.in-Some-cursor_in.is at next in
    rw found.1 at (c.step-run_sample.ensures.run_sample runs found.0)

pub returns-clause-position : goal.returns-clause-position
returns-clause-position c =
    let index = c.args.self.now in
    let find = run_at c.args.trafs.now c.args.track in
    let runs = runs_of c.args.trafs.now c.args.track index in
    let many = length-entries find runs index c.requires.indexed in
    let got = c.in-Some.ensures.lookup in
    let within : c.args.end.entry + 1 < length index.entries = rw c.as_slice-entries.ensures at got.3.0 in
    let next = next_at find c.as_slice-entries.result.now runs index c.in-Some.entry.now c.args.end c.cursor_in.result
    c.requires.indexed c.requires.end c.as_slice-entries.ensures got.1
    (omega (arith, within, many, c.requires.indexed.counts.count)) c.cursor_in.ensures.some in
    let found = rw c.in-Some-cursor_in.is at next in
    c.step-run_sample.ensures.passed runs found.0
