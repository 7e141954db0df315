use Rattle.std.proofs.Common.{◌≡◌, ◌<◌, length, arith}
use Rattle.mp4_search.specs.Search.{IsCountByGuess}
use Rattle.mp4_search.specs.BitSet.{looks_at_bit}
use Rattle.mp4_samples.specs.Tables.{tables_of}
use Rattle.mp4_lookup.specs.Costs.{AreFewByGuess, AreFewForRunSampleByGuess, AreTrackCounts}
use Rattle.mp4_lookup.proofs.TrackLaws.{answer_is_plain}
use Rattle.mp4_lookup.specs.TrackRuns.{track_runs}
use Rattle.mp4_lookup.proofs.Counts.{few_by_guess_at, few_for_run_sample_by_guess, of_place, of_place_by}
use Rattle.mp4_lookup.proofs.track.Mp4Track.locate_by_guess.Goals as goal

pub returns-clause-plain : goal.returns-clause-plain
returns-clause-plain c = λ of_movie fits.
    rw (answer_is_plain c.args.self.now.trak c.args.self.now.trafs (track_runs c.args.self.now) c.args.k of_movie fits
    c.args.self.now.numbered (omega arith))
    at c.answer.ensures.rule

pub returns-clause-comparisons : goal.returns-clause-comparisons
returns-clause-comparisons c = λ of_movie.
    let t = c.args.self.now in
    let k = c.args.k in
    of_place (λ p. AreTrackCounts IsCountByGuess (looks_at_bit) t k p.comparisons)
    (λ p. AreFewByGuess (tables_of t.trak) p.comparisons)
    c.answer.result (λ p a. few_by_guess_at (tables_of t.trak) t.index k p.comparisons t.indexed (a.tables of_movie))
    c.answer.ensures.counted

pub returns-clause-added : goal.returns-clause-added
returns-clause-added c = λ added.
    let t = c.args.self.now in
    let k = c.args.k in
    of_place_by (λ p. AreTrackCounts IsCountByGuess (looks_at_bit) t k p.comparisons)
    (λ p. (0 < length (track_runs t)) × (p.size_reads ≡ 0))
    (λ p. AreFewForRunSampleByGuess (track_runs t) p.comparisons × (p.size_reads ≡ 0))
    c.answer.result
    (λ p a b. (few_for_run_sample_by_guess _ (track_runs t) t.runs _ p.comparisons t.placed (a.added added) b.0, b.1))
    c.answer.ensures.counted (c.answer.ensures.added added)
