use Rattle.std.proofs.Common.{◌≡◌, fold, max, map, take}
use Rattle.mp4_mux.specs.TrackHeaders.{movie_duration}
use Rattle.mp4_mux.proofs.ending.longest.Given as goal

abbrev pub invariant-loop-i : goal.invariant-loop-i
invariant-loop-i l =
    l.longest ≡ fold max 0 (map (λ b. movie_duration b.movie_timescale b.config.timescale b.samples)
    (take l.i l.tracks))
