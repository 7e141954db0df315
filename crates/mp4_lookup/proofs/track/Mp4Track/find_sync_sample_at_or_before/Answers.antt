use Rattle.std.proofs.Common.{sym, ◌∙◌, arith}
use Rattle.std.proofs.lemmas.Bool.{true≢false}
use Rattle.mp4_samples.specs.Tables.{tables_of}
use Rattle.mp4_lookup.specs.TrackRuns.{track_runs}
use Rattle.mp4_lookup.proofs.Numbers.{movie_sync_upto}
use Rattle.mp4_lookup.proofs.track.Mp4Track.find_sync_sample_at_or_before.Goals as goal

pub returns-clause-number : goal.returns-clause-number
returns-clause-number c =
    let t = c.args.self.now in
    movie_sync_upto (tables_of t.trak) (track_runs t) c.args.k c.last_sync_upto-number.result c.in_default.ensures.none
    (rw (c.min-last.ensures, c.sample_count.ensures) at c.last_sync_upto-number.ensures.number)

pub returns-in-Some-clause-counted : goal.returns-in-Some-clause-counted
returns-in-Some-clause-counted c =
    let sync = c.in-Some.ensures.sync in record {
      found = λ j h e. omega (arith, c.count.ensures, c.in-Some.ensures.counted);
      before = λ none. absurd (true≢false (sym sync.2 ∙ none sync.0 sync.1));
    }
