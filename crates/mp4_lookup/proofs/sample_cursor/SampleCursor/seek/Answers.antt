use Rattle.std.proofs.Common.{arith}
use Rattle.mp4_lookup.proofs.TrackLaws.{answer_is_plain}
use Rattle.mp4_lookup.proofs.sample_cursor.SampleCursor.seek.Goals as goal
use Rattle.mp4_lookup.specs.SampleCursor.{track_of}
use Rattle.mp4_lookup.specs.TrackRuns.{track_runs}

pub returns-clause-plain : goal.returns-clause-plain
returns-clause-plain c = λ of_movie fits.
    let t = track_of c.args.self.now in
    rw (answer_is_plain t.trak t.trafs (track_runs t) c.args.k of_movie fits t.numbered (omega arith))
    at c.answer.ensures.rule
