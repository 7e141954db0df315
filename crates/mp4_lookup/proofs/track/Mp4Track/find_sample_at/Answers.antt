use Rattle.std.proofs.Common.{sym, ◌∙◌, arith}
use Rattle.std.proofs.lemmas.Bool.{true≢false}
use Rattle.mp4_samples.specs.Tables.{tables_of}
use Rattle.mp4_lookup.specs.TrackRuns.{track_runs}
use Rattle.mp4_lookup.proofs.Numbers.{movie_by}
use Rattle.mp4_lookup.proofs.track.Mp4Track.find_sample_at.Goals as goal

pub returns-clause-number : goal.returns-clause-number
returns-clause-number c =
    let t = c.args.self.now in
    movie_by (tables_of t.trak) (track_runs t) c.args.time c.last_by_time-number.result t.counted
    c.in_default.ensures.none
    (rw (c.as_slice-runs.ensures, c.sample_count.ensures) at c.last_by_time-number.ensures.number)

pub returns-in-Some-clause-counted : goal.returns-in-Some-clause-counted
returns-in-Some-clause-counted c =
    let early = c.in-Some.ensures.early in record {
      added = c.count.result;
      in_runs = rw c.count.ensures c.in-Some.ensures.counted;
      found = λ j h e. omega arith;
      before = λ none. absurd (true≢false (sym early.2 ∙ none early.0 early.1));
    }

pub returns-clause-counted : goal.returns-clause-counted
returns-clause-counted c = record {
  added = c.count-2.result;
  in_runs = rw c.count-2.ensures c.in_default.ensures.counted;
  found = λ j h e. absurd (true≢false (sym e ∙ c.in_default.ensures.none j h));
  before = λ none. (
    c.count-3.result,
    rw c.count-3.ensures c.last_by_time-number.ensures.counted,
    omega (arith, c.saturating_add.ensures),
  );
}
