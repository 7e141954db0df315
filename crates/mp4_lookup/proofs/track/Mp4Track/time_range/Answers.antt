use Rattle.mp4_samples.specs.Tables.{tables_of}
use Rattle.mp4_lookup.specs.TrackRuns.{track_runs}
use Rattle.mp4_lookup.proofs.Numbers.{no_range, no_start, range_is}
use Rattle.mp4_lookup.proofs.track.Mp4Track.time_range.Goals as goal

pub returns-in_default : goal.returns-in_default
returns-in_default c =
    let t = c.args.self.now in
    no_start (tables_of t.trak) (track_runs t) c.in_default.ensures.begin

pub returns-in_default-end_time : goal.returns-in_default-end_time
returns-in_default-end_time c =
    let t = c.args.self.now in
    no_range (tables_of t.trak) (track_runs t) c.in-Some.start c.in-Some.ensures.begin
    (rw c.last_number.ensures at c.in_default-end_time.ensures)

pub returns : goal.returns
returns c =
    let t = c.args.self.now in
    range_is (tables_of t.trak) (track_runs t) c.in-Some.start c.in-Some-end_time.end c.in-Some.ensures.begin
    (rw c.last_number.ensures at c.in-Some-end_time.ensures)
