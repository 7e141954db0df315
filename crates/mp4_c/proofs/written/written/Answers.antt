-- A part that is refused after the beginning is where the writing is refused.
use Rattle.mp4_mux.specs.Writing.{started}
use Rattle.mp4_c.specs.Written.{IsMovieIn, config_of}
use Rattle.std.proofs.Common.{[]}
use Rattle.mp4_c.proofs.Refusals.{after_beginning, of_one}
use Rattle.mp4_c.proofs.written.written.Goals as goal

pub returns-in-Ok-clause-movie : goal.returns-in-Ok-clause-movie
returns-in-Ok-clause-movie g c =
    of_one c.filled.result c.in-Ok.writer (started [] (config_of c.args.movie.now c.args.brands.now))
    (λ st sink. IsMovieIn st c.args.tracks.now c.args.source.now c.args.samples.now (g.S.ByteSink.contents sink)
    (g.S.ByteSink.len sink)) c.in-Ok.ensures.begun c.filled.ensures.movie

pub returns-in-Ok-clause-refused : goal.returns-in-Ok-clause-refused
returns-in-Ok-clause-refused g c =
    after_beginning c.filled.result c.in-Ok.writer c.args.movie.now c.args.brands.now c.args.tracks.now
    c.args.source.now c.args.samples.now c.in-Ok.ensures.cause c.in-Ok.ensures.begun c.filled.ensures.refused
