use Rattle.std.proofs.Common.{◌∙◌, ◌+◌, ℕ, List, Err, length, ap, arith, inl, inr, refl}
use Rattle.std.proofs.lemmas.Result.{err_from_is_err_and}
use Rattle.mp4_codec.specs.Cause.{cause_of}
use Rattle.mp4_mux.specs.declared.sample_info.SampleInfo.{SampleInfo}
use Rattle.mp4_samples.specs.Places.{place_of}
use Rattle.mp4_media.specs.FileBoxes.{opened_movie}
use Rattle.mp4_remux.specs.Descriptions.{description_of}
use Rattle.mp4_remux.specs.declared.layout_error.LayoutError.{LayoutError}
use Rattle.mp4_remux.proofs.Counting.{next_apart, next_timed, none_timed, past_most, timed_samples}
use Rattle.mp4_remux.proofs.LookedUp.{described, not_there}
use Rattle.mp4_remux.proofs.MakingTables.{all_made, next_made, none_made, none_yet_shown, one_more_shown, too_large}
use Rattle.mp4_remux.proofs.track_tables.tables_of.Goals as goal

pub loop-k-init : goal.loop-k-init
loop-k-init c =
    let opened = opened_movie c.args.movie.now in
    let id = c.args.track_id in
    record {
      upto = omega arith;
      most = refl;
      timed = none_timed opened id c.new-tables.result.duration c.new-tables.ensures.duration;
      count = ap (λ (ss : List SampleInfo). length ss) c.new-tables.ensures.held.infos_are;
      shown = none_yet_shown opened id c.new-tables.result.shown c.new-tables.ensures.shown;
      made = λ to by. none_made opened id to c.new-tables.result c.new-tables.ensures.held;
      described = λ later some small.
          c.in_ok-descriptions.ensures later (omega (arith, some)) small
          ∙ described c.args.movie.now c.requires.tracks id _ c.in_ok-track.ensures later;
    }

pub loop-k-preserved : goal.loop-k-preserved
loop-k-preserved c =
    let opened = opened_movie c.args.movie.now in
    let id = c.args.track_id in
    let p = place_of c.in-Some.sample in
    let there = rw c.in-Some.is at c.in_ok-sample.ensures.some in
    let next = c.next.ensures (description_of opened id) c.loop-k.invariant.described in
    record {
      upto = omega arith;
      most = c.loop-k.invariant.most;
      timed = next_timed opened id c.loop-k.k c.loop-k.tables.duration _ p there c.if-sample-tables.false
          c.in_ok-push.ensures.duration;
      count = c.in_ok-push.ensures.count ∙ ap (λ (n : ℕ). n + 1) c.loop-k.invariant.count;
      shown = one_more_shown opened id c.loop-k.k c.loop-k.tables.shown _ p c.loop-k.invariant.shown there
          c.in_ok-push.ensures.shown;
      made = λ to by.
          next_made opened id to c.loop-k.k _ _ p c.loop-k.tables _ (c.loop-k.invariant.made to by) there
          (by.each _ _ c.moved-place.ensures) next.0 c.in_ok-push.ensures.held;
      described = next.1;
    }

pub returns-then-sample-tables-clause-why : goal.returns-then-sample-tables-clause-why
returns-then-sample-tables-clause-why c =
    next_apart (opened_movie c.args.movie.now) c.args.track_id c.loop-k.k c.loop-k.tables.duration
    (place_of c.in-Some.sample) c.loop-k.invariant.timed (rw c.in-Some.is at c.in_ok-sample.ensures.some) (omega arith)
    c.if-sample-tables.true

pub returns-clause-why : goal.returns-clause-why
returns-clause-why c =
    past_most (opened_movie c.args.movie.now) c.args.track_id c.loop-k.k c.args.most
    (timed_samples (opened_movie c.args.movie.now) c.args.track_id c.loop-k.k c.loop-k.tables.duration
    c.loop-k.invariant.timed) (omega (arith, c.loop-k-test.false))

pub returns-in_err-track-clause-unmade : goal.returns-in_err-track-clause-unmade
returns-in_err-track-clause-unmade c = λ to by.
    let p = err_from_is_err_and c.from_residual.result c.from_residual.ensures.1 in
    rw (p.1 ∙ ap (λ (e : LayoutError). Err e) p.2)
    (inr (inl (not_there c.args.movie.now c.requires.tracks c.args.track_id (cause_of c.in_err-track.field-0.0)
    c.in_err-track.ensures)))

pub returns-in_err-into_tables-clause-unmade : goal.returns-in_err-into_tables-clause-unmade
returns-in_err-into_tables-clause-unmade c = λ to by.
    let p = err_from_is_err_and c.from_residual-in_err-into_tables.result
    c.from_residual-in_err-into_tables.ensures.1 in
    rw (p.1 ∙ ap (λ (e : LayoutError). Err e) p.2)
    (too_large (opened_movie c.args.movie.now) c.args.track_id to c.loop-k.k c.loop-k.tables
    (c.loop-k.invariant.made to by) (rw c.in_default.is at c.in_ok-sample.ensures.none)
    c.in_err-into_tables.field-0.0 c.in_err-into_tables.ensures.refused)

pub returns-in_default-clause-tables : goal.returns-in_default-clause-tables
returns-in_default-clause-tables c = λ to by.
    all_made (opened_movie c.args.movie.now) c.args.track_id to c.loop-k.k c.loop-k.tables
    (c.loop-k.invariant.made to by) (rw c.in_default.is at c.in_ok-sample.ensures.none)
    c.in_ok-into_tables.field-0 c.in_ok-into_tables.ensures.bytes c.in_ok-into_tables.ensures.fit
    c.in_ok-into_tables.ensures.chunks
    c.in_ok-into_tables.ensures.duration c.loop-k.invariant.shown
