use Rattle.std.proofs.Common.{arith, sym}
use Rattle.mp4_search.proofs.SumLaws.{counts_rise}
use Rattle.mp4_fragments.specs.RunSamples.{run_count}
use Rattle.mp4_fragments.specs.Index.{run_at, runs_of}
use Rattle.mp4_fragments.proofs.Cursors.{found_by}
use Rattle.mp4_fragments.proofs.Finding.{length-entries, located_none, right_by}
use Rattle.mp4_fragments.proofs.index.RunIndex.find.Goals as goal

pub last_at_most-requires-clause-rises : goal.last_at_most-requires-clause-rises
last_at_most-requires-clause-rises g c =
    let index = c.args.self.now in
    counts_rise run_count (runs_of c.args.trafs.now c.args.track index) index.counts c.requires.indexed.counts

pub run_sample_at-requires : goal.run_sample_at-requires
run_sample_at-requires g c =
    let index = c.args.self.now in
    let known = run_at c.args.trafs.now c.args.track in
    let runs = runs_of c.args.trafs.now c.args.track index in
    let many = length-entries known runs index c.requires.indexed in
    let found = rw c.in-Some.is at c.last_at_most.ensures.found in
    right_by known c.as_slice.result.now runs index c.in-Some.found.index c.index-as_slice-found.result
    c.requires.indexed c.as_slice.ensures c.index-as_slice-found.is (omega (arith, many, found.0.within))

pub returns-in_default-clause-run_sample : goal.returns-in_default-clause-run_sample
returns-in_default-clause-run_sample g c =
    let index = c.args.self.now in
    sym (located_none (run_at c.args.trafs.now c.args.track)
    (runs_of c.args.trafs.now c.args.track index) index c.args.number c.requires.indexed
    (rw c.in_default.is at c.last_at_most.ensures.none))

pub returns-clause-run_sample : goal.returns-clause-run_sample
returns-clause-run_sample g c =
    let index = c.args.self.now in
    let found = rw c.in-Some.is at c.last_at_most.ensures.found in
    found_by (run_at c.args.trafs.now c.args.track) c.as_slice.result.now
    (runs_of c.args.trafs.now c.args.track index) index c.args.number c.in-Some.found.index c.in-Some.found.number
    c.index-as_slice-found.result c.run_sample_at.result c.requires.number c.requires.indexed c.as_slice.ensures
    c.index-as_slice-found.is found.0 found.1 c.run_sample_at.ensures
