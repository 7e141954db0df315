use Rattle.std.proofs.Common.{◌≡◌, ◌∙◌, ℕ, Some, Err, ap, arith, inr, slice_index_or}
use Rattle.std.proofs.lemmas.Result.{err_from_is_err_and}
use Rattle.mp4_codec.specs.declared.error.Error.{Error}
use Rattle.mp4_media.specs.MovieTracks.{OpenedTrack, track_at}
use Rattle.mp4_remux.proofs.HeaderLaws.{track_missing, track_there}
use Rattle.mp4_remux.proofs.Numbered.{at_index, each_more}
use Rattle.mp4_remux.proofs.Sameness.{got_within}
use Rattle.mp4_remux.proofs.chosen.check_ids.Goals as goal

pub loop-i-preserved : goal.loop-i-preserved
loop-i-preserved c =
    let m = c.args.movie.now in
    record {
      upto = omega (arith, c.loop-i-test.true);
      ids = c.loop-i.invariant.ids;
      there =
          each_more c.args.ids.now (λ (id : ℕ). (track : OpenedTrack)
          × (track_at m.moov m.moofs m.moof_places id ≡ Some track)) c.loop-i.i 0 c.loop-i.invariant.there
          (track_there m c.requires _ c.in_ok-track.field-0.now c.in_ok-track.ensures);
    }

pub returns-clause-there : goal.returns-clause-there
returns-clause-there c = λ id i there.
    c.loop-i.invariant.there id i
    (omega (arith, got_within c.args.ids.now i id there, c.loop-i-test.false)) there

pub returns-in_err-track-clause-missing : goal.returns-in_err-track-clause-missing
returns-in_err-track-clause-missing c =
    let p = err_from_is_err_and c.from_residual.result c.from_residual.ensures.1 in
    let i = c.loop-i.i in
    let one = track_missing c.args.movie.now c.requires _ _ c.in_err-track.ensures in
    rw (p.1 ∙ ap (λ (e : Error). Err e) p.2) (inr (
      slice_index_or c.args.ids.now i 0,
      i,
      (
        record {
          there = at_index c.args.ids.now i 0 (omega (arith, c.loop-i-test.true));
          none = one.0;
          first = c.loop-i.invariant.there;
        },
        one.1,
      ),
    ))
