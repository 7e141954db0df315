use Rattle.std.proofs.Common.{sym, ◌∙◌, arith}
use Rattle.mp4_samples.specs.Tables.{tables_of}
use Rattle.mp4_lookup.specs.TrackRuns.{track_runs}
use Rattle.mp4_lookup.proofs.Numbers.{added_timing, movie_duration, movie_time, no_timing}
use Rattle.mp4_lookup.proofs.track.Mp4Track.timing_of.Goals as goal

pub returns-then-k-count-clause-begin : goal.returns-then-k-count-clause-begin
returns-then-k-count-clause-begin c =
    let t = c.args.self.now in
    c.timing_in_tables.ensures.begin ∙ sym (movie_time (tables_of t.trak) (track_runs t) c.args.k
    (rw c.sample_count-count.ensures at c.if-k-count.true))

pub returns-then-k-count-clause-duration : goal.returns-then-k-count-clause-duration
returns-then-k-count-clause-duration c =
    let t = c.args.self.now in
    rw (movie_duration (tables_of t.trak) (track_runs t) c.args.k
    (rw c.sample_count-count.ensures at c.if-k-count.true)) c.timing_in_tables.ensures.duration

pub returns-in_default-clause-begin : goal.returns-in_default-clause-begin
returns-in_default-clause-begin c =
    let t = c.args.self.now in
    sym (no_timing (tables_of t.trak) (track_runs t) c.args.k
    (omega (arith, c.sample_count-count.ensures, c.if-k-count.false))
    (sym (rw (c.sample_count-count.ensures, c.as_slice-trafs.ensures) at c.in_default.ensures.run_sample)))

pub returns-clause-begin : goal.returns-clause-begin
returns-clause-begin c =
    let t = c.args.self.now in
    let told = added_timing (tables_of t.trak) (track_runs t) c.args.k c.in-Some.run_sample
    (omega (arith, c.sample_count-count.ensures, c.if-k-count.false))
    (sym (rw (c.sample_count-count.ensures, c.as_slice-trafs.ensures) at c.in-Some.ensures.run_sample)) in
    c.timing_of_run_sample.ensures.begin ∙ sym told.0

pub returns-clause-duration : goal.returns-clause-duration
returns-clause-duration c =
    let t = c.args.self.now in
    let told = added_timing (tables_of t.trak) (track_runs t) c.args.k c.in-Some.run_sample
    (omega (arith, c.sample_count-count.ensures, c.if-k-count.false))
    (sym (rw (c.sample_count-count.ensures, c.as_slice-trafs.ensures) at c.in-Some.ensures.run_sample)) in
    rw told.1 c.timing_of_run_sample.ensures.duration
