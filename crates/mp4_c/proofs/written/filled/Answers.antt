-- A refused track, sample or end is where a writing is refused.
use Rattle.std.proofs.lemmas.Result.{err_from_is_err_and}
use Rattle.mp4_c.proofs.Refusals.{at_end, at_movie, at_sample, at_track}
use Rattle.mp4_c.proofs.written.filled.Goals as goal

pub returns-in_err-add_tracks-clause-refused : goal.returns-in_err-add_tracks-clause-refused
returns-in_err-add_tracks-clause-refused g c =
    let step = c.from_residual in
    let p = err_from_is_err_and step.result step.ensures.1 in
    rw (p.1, p.2) (λ st h. at_track c.in_err-add_tracks.field-0.0 st c.args.tracks.now c.args.source.now
    c.args.samples.now c.in_err-add_tracks.ensures.part (c.in_err-add_tracks.ensures.refused st h))

pub returns-in_err-add_samples-clause-refused : goal.returns-in_err-add_samples-clause-refused
returns-in_err-add_samples-clause-refused g c =
    let step = c.from_residual-in_err-add_samples in
    let p = err_from_is_err_and step.result step.ensures.1 in
    rw (p.1, p.2) (λ st h.
    let ready = c.in_ok-add_tracks.ensures.added st h in
    at_sample c.in_err-add_samples.field-0.0 st ready.0 c.args.tracks.now c.args.source.now c.args.samples.now
    c.in_err-add_samples.ensures.part ready.1 (c.in_err-add_samples.ensures.refused ready.0 ready.2))

pub returns-clause-refused : goal.returns-clause-refused
returns-clause-refused g c =
    at_end g.S.ByteSink.contents g.S.ByteSink.len c.ended.result c.args.writer c.add_samples.new.writer
    c.args.tracks.now c.args.source.now c.args.samples.now
    (λ st h. let ready = c.in_ok-add_tracks.ensures.added st h in (
      ready.0,
      ready.1,
      c.in_ok-add_samples.ensures.written ready.0 ready.2,
      c.in_ok-add_samples.ensures.added ready.0 ready.2,
    )) c.ended.ensures.part c.ended.ensures.index c.ended.ensures.refused

pub returns-clause-movie : goal.returns-clause-movie
returns-clause-movie g c =
    at_movie g.S.ByteSink.contents g.S.ByteSink.len c.ended.result c.args.writer c.add_samples.new.writer
    c.args.tracks.now c.args.source.now c.args.samples.now
    (λ st h. let ready = c.in_ok-add_tracks.ensures.added st h in (
      ready.0,
      ready.1,
      c.in_ok-add_samples.ensures.written ready.0 ready.2,
      c.in_ok-add_samples.ensures.added ready.0 ready.2,
    )) c.ended.ensures.movie
