use Rattle.std.proofs.Common.{◌≡◌, ◌-◌, ◌<◌, length, true≢false, sym, ◌∙◌}
use Rattle.mp4_boxes.specs.Stbl.{sample_count}
use Rattle.mp4_samples.specs.Tables.{tables_of}
use Rattle.mp4_lookup.specs.Costs.{AreCounts, AreRunSampleCounts, AreTrackCounts}
use Rattle.mp4_lookup.specs.TrackRuns.{track_runs}
use Rattle.mp4_lookup.proofs.Counts.{of_place, of_place_by}
use Rattle.mp4_lookup.proofs.track.Mp4Track.answer.Goals as goal

pub returns-then-is_of_movie-clause-counted : goal.returns-then-is_of_movie-clause-counted
returns-then-is_of_movie-clause-counted g c =
    let t = c.args.self.now in
    let k = c.args.k in
    let counts = g.S.Search.Counts in
    let looks = g.S.Search.looks in
    let of_movie = sym c.is_of_movie.ensures.value ∙ c.if-is_of_movie.true in
    of_place (λ p. AreCounts counts looks t.index k p.comparisons)
    (λ p. AreTrackCounts counts looks t k p.comparisons) c.place_at.result
    (λ p a. record { tables = λ _. a; added = λ no. absurd (true≢false (sym of_movie ∙ no)) })
    c.place_at.ensures.counted

pub returns-else-is_of_movie-clause-counted : goal.returns-else-is_of_movie-clause-counted
returns-else-is_of_movie-clause-counted g c =
    let t = c.args.self.now in
    let k = c.args.k in
    let counts = g.S.Search.Counts in
    let looks = g.S.Search.looks in
    let added = sym c.is_of_movie.ensures.value ∙ c.if-is_of_movie.false in
    of_place (λ p. AreRunSampleCounts counts t.runs (k - sample_count (tables_of t.trak) - 1) p.comparisons)
    (λ p. AreTrackCounts counts looks t k p.comparisons) c.added_at.result
    (λ p a. record { tables = λ yes. absurd (true≢false (sym yes ∙ added)); added = λ _. a })
    (rw c.sample_count.ensures at c.added_at.ensures.counted)

pub returns-else-is_of_movie-clause-added : goal.returns-else-is_of_movie-clause-added
returns-else-is_of_movie-clause-added g c = λ _.
    let t = c.args.self.now in
    of_place_by (λ p. 0 < length (track_runs t)) (λ p. p.size_reads ≡ 0)
    (λ p. (0 < length (track_runs t)) × (p.size_reads ≡ 0)) c.added_at.result (λ p a b. (a, b))
    c.added_at.ensures.some_runs c.added_at.ensures.size_reads
