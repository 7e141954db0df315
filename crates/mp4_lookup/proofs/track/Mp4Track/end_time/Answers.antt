use Rattle.std.proofs.Common.{sym}
use Rattle.mp4_samples.specs.Tables.{tables_of}
use Rattle.mp4_lookup.specs.TrackRuns.{track_runs}
use Rattle.mp4_lookup.proofs.Numbers.{ended, no_end}
use Rattle.mp4_lookup.proofs.track.Mp4Track.end_time.Goals as goal

pub returns-in_default : goal.returns-in_default
returns-in_default c =
    let t = c.args.self.now in
    sym (no_end (tables_of t.trak) (track_runs t) c.args.k (sym c.in_default.ensures.begin))

pub returns : goal.returns
returns c =
    let t = c.args.self.now in
    ended (tables_of t.trak) (track_runs t) c.args.k c.in-Some.begin c.in-Some.duration c.checked_add.result
    (sym c.in-Some.ensures.begin) c.in-Some.ensures.duration (rw c.from.ensures at c.checked_add.ensures)
