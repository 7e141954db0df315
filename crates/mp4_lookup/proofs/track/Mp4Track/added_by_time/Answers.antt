use Rattle.mp4_samples.specs.Tables.{tables_of}
use Rattle.mp4_lookup.specs.TrackRuns.{track_runs}
use Rattle.mp4_lookup.proofs.Numbers.{added_by}
use Rattle.mp4_lookup.proofs.track.Mp4Track.added_by_time.Goals as goal

pub returns-in-Some-clause-some : goal.returns-in-Some-clause-some
returns-in-Some-clause-some c =
    let t = c.args.self.now in
    rw c.sample_count-count.ensures
    (added_by (tables_of t.trak) (track_runs t) c.args.time c.in-Some.number t.counted
    (rw (c.sample_count-count.ensures, c.as_slice-trafs.ensures) at c.in-Some.ensures.number))
