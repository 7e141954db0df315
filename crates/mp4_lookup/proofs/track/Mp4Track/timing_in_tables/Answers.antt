use Rattle.std.proofs.Common.{sym, arith}
use Rattle.mp4_codec.specs.Cause.{cause_of}
use Rattle.mp4_table.specs.Runs.{durations}
use Rattle.mp4_lookup.proofs.StartTimes.{known_time, time_of_none, unknown_time}
use Rattle.mp4_lookup.proofs.track.Mp4Track.timing_in_tables.Goals as goal

pub returns-then-k-eq0-clause-begin : goal.returns-then-k-eq0-clause-begin
returns-then-k-eq0-clause-begin c =
    rw c.if-k-eq0.true (sym (time_of_none (durations c.args.self.now.trak.mdia.minf.stbl.stts.entries)))

pub returns-in-Ok-clause-begin : goal.returns-in-Ok-clause-begin
returns-in-Ok-clause-begin c =
    let trak = c.args.self.now.trak in
    let told = known_time trak.mdia.minf.stbl.stts.entries trak.tkhd.track_id c.args.k c.in-Ok.duration c.in-Ok.begin
    (omega (arith, c.if-k-eq0.false)) (rw c.as_slice-runs.ensures at c.in-Ok.ensures.time) in
    sym told.0

pub returns-in-Ok-clause-duration : goal.returns-in-Ok-clause-duration
returns-in-Ok-clause-duration c =
    let trak = c.args.self.now.trak in
    let told = known_time trak.mdia.minf.stbl.stts.entries trak.tkhd.track_id c.args.k c.in-Ok.duration c.in-Ok.begin
    (omega (arith, c.if-k-eq0.false)) (rw c.as_slice-runs.ensures at c.in-Ok.ensures.time) in
    sym told.1

pub returns-in-Err-clause-begin : goal.returns-in-Err-clause-begin
returns-in-Err-clause-begin c =
    let trak = c.args.self.now.trak in
    sym (unknown_time trak.mdia.minf.stbl.stts.entries trak.tkhd.track_id c.args.k (cause_of c.in-Err.field-0)
    (omega (arith, c.if-k-eq0.false)) (rw c.as_slice-runs.ensures at c.in-Err.ensures.time))
