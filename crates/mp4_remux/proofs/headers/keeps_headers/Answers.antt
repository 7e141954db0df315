use Rattle.std.proofs.Common.{◌≡◌, Some, arith, refl, ap, sym, subst, ◌∙◌, length, List}
use Rattle.std.specs.Prelude.{slice_index_or}
use Rattle.mp4_boxes.specs.declared.trak.TrakBox.{TrakBox}
use Rattle.mp4_media.specs.MovieTracks.{OpenedTrack, track_at}
use Rattle.mp4_remux.specs.Headers.{KeepsTrack}
use Rattle.mp4_remux.proofs.HeaderLaws.{keeps_more, kept_there}
use Rattle.mp4_remux.proofs.Numbered.{at_index, each_more}
use Rattle.mp4_remux.proofs.Sameness.{got_within}
use Rattle.mp4_remux.proofs.headers.keeps_headers.Goals as goal

pub loop-i-preserved : goal.loop-i-preserved
loop-i-preserved c =
    let m = c.args.before.now in
    let traks = c.args.after.now.moov.traks in
    let trak = c.index-traks-i.result in
    let P = λ (t : TrakBox). (o : OpenedTrack)
    × ((track_at m.moov m.moofs m.moof_places t.tkhd.track_id ≡ Some o) × KeepsTrack o.trak t) in
    let at : trak ≡ slice_index_or traks c.loop-i.i trak =
    c.index-traks-i.is ∙ ap (λ (ts : List TrakBox). slice_index_or ts c.loop-i.i trak) c.as_slice-traks.ensures in
    record {
      upto = omega (arith, c.loop-i-test.true);
      traks = c.as_slice-traks.ensures;
      same =
          each_more traks P c.loop-i.i trak c.loop-i.invariant.same
          (subst P at (keeps_more m c.requires trak c.in-Ok.was.now c.in-Ok.ensures
          (c.if-not-keeps_track.ensures.0 refl)));
    }

pub returns-then-not-keeps_track : goal.returns-then-not-keeps_track
returns-then-not-keeps_track c = (
  λ is. absurd cc,
  λ keeps.
      let traks = c.args.after.now.moov.traks in
      let trak = c.index-traks-i.result in
      let at : trak ≡ slice_index_or traks c.loop-i.i trak =
      c.index-traks-i.is ∙ ap (λ (ts : List TrakBox). slice_index_or ts c.loop-i.i trak) c.as_slice-traks.ensures in
      let there = at_index traks c.loop-i.i trak
      (omega (arith, ap length c.as_slice-traks.ensures, c.loop-i-test.true))
      ∙ ap (λ (t : TrakBox). Some t) (sym at) in
      c.if-not-keeps_track.ensures.1
      (kept_there c.args.before.now c.requires trak c.in-Ok.was.now c.in-Ok.ensures
      (keeps.tracks trak c.loop-i.i there)),
)

pub returns : goal.returns
returns c = (
  λ _. record {
    movie = c.if-not-keeps_movie_header.ensures.0 refl;
    tracks = λ t i there.
        c.loop-i.invariant.same t i
        (omega (
          arith,
          got_within c.args.after.now.moov.traks i t there,
          ap length c.as_slice-traks.ensures,
          c.loop-i-test.false,
        )) there;
  },
  λ _. refl,
)
