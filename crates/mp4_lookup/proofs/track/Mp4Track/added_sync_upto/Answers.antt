use Rattle.std.proofs.Common.{◌-◌, ◌^◌, length, arith}
use Rattle.mp4_boxes.specs.Stbl.{sample_count}
use Rattle.mp4_fragments.specs.RunSamples.{all_run_samples}
use Rattle.mp4_fragments.specs.Sync.{sync_at}
use Rattle.mp4_search.proofs.Digits.{digits_grow}
use Rattle.mp4_samples.specs.Tables.{tables_of}
use Rattle.mp4_lookup.specs.TrackRuns.{track_runs}
use Rattle.mp4_lookup.proofs.Numbers.{added_sync_upto}
use Rattle.mp4_lookup.proofs.track.Mp4Track.added_sync_upto.Goals as goal

pub overflow_add-result-in-Some : goal.overflow_add-result-in-Some
overflow_add-result-in-Some c =
    let t = c.args.self.now in
    let count = sample_count t.trak.mdia.minf.stbl in
    let last = c.in-Some.ensures.number (sync_at (track_runs t)) (2 ^ 32 - 1 - count) t.sought.sync
    (omega (arith, c.sample_count-count.ensures, c.if-k-count.false)) in
    omega (arith, last.within, c.sample_count-count.ensures, c.if-k-count.false)

pub returns-in-None-clause-none : goal.returns-in-None-clause-none
returns-in-None-clause-none c = λ n h.
    let t = c.args.self.now in
    let count = sample_count t.trak.mdia.minf.stbl in
    c.in-None.ensures.number (sync_at (track_runs t)) (2 ^ 32 - 1 - count) t.sought.sync
    (omega (arith, c.sample_count-count.ensures, c.if-k-count.false)) n
    (omega (arith, c.sample_count-count.ensures, h))

pub returns-in-None-clause-few : goal.returns-in-None-clause-few
returns-in-None-clause-few c =
    let t = c.args.self.now in
    omega (
      arith,
      c.last_upto.ensures.few,
      digits_grow (length t.seek.sync.firsts.items) (length (all_run_samples (track_runs t))) t.sought.few,
    )

pub returns-in-Some-clause-some : goal.returns-in-Some-clause-some
returns-in-Some-clause-some c =
    let t = c.args.self.now in
    let count = sample_count t.trak.mdia.minf.stbl in
    rw c.sample_count-count.ensures
    (added_sync_upto (tables_of t.trak) (track_runs t) c.args.k c.in-Some.number
    (omega (arith, c.sample_count-count.ensures, c.if-k-count.false))
    (rw c.sample_count-count.ensures at (c.in-Some.ensures.number (sync_at (track_runs t)) (2 ^ 32 - 1 - count)
    t.sought.sync (omega (arith, c.sample_count-count.ensures, c.if-k-count.false)))))

pub returns-in-Some-clause-few : goal.returns-in-Some-clause-few
returns-in-Some-clause-few c =
    let t = c.args.self.now in
    omega (
      arith,
      c.last_upto.ensures.few,
      digits_grow (length t.seek.sync.firsts.items) (length (all_run_samples (track_runs t))) t.sought.few,
    )

pub returns-in-Some-clause-sync : goal.returns-in-Some-clause-sync
returns-in-Some-clause-sync c =
    let t = c.args.self.now in
    let count = sample_count t.trak.mdia.minf.stbl in
    let last = c.in-Some.ensures.number (sync_at (track_runs t)) (2 ^ 32 - 1 - count) t.sought.sync
    (omega (arith, c.sample_count-count.ensures, c.if-k-count.false)) in (
      c.in-Some.number,
      omega (arith, last.within, c.sample_count-count.ensures, c.if-k-count.false),
      last.own,
    )
