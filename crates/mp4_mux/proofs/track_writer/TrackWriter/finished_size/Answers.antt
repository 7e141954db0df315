use Rattle.std.proofs.Common.{◌∙◌}
use Rattle.mp4_mux.proofs.FinishedTracks.{size_same}
use Rattle.mp4_mux.proofs.track_writer.TrackWriter.finished_size.Goals as goal

pub trak_size-requires-clause-accepted : goal.trak_size-requires-clause-accepted
trak_size-requires-clause-accepted c = rw (c.parts.ensures.config, ← c.self.view_is) c.self.invariant.accepted

pub returns-clause-value : goal.returns-clause-value
returns-clause-value c place e =
    let b = c.args.self.now in
    c.trak_size.ensures.value
    ∙ (rw (
      c.parts.ensures.id,
      c.parts.ensures.config,
      c.parts.ensures.samples,
      c.parts.ensures.chunks,
      c.parts.ensures.durations,
      c.last_place.ensures,
    ) (size_same b.movie_timescale c.args.id b c.args.offset place e))
