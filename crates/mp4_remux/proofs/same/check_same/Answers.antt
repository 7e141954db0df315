use Rattle.std.proofs.Common.{◌≡◌, ◌+◌, ap, refl, subst, sym, arith, ◌∙◌, length, List, Some, Err}
use Rattle.std.proofs.lemmas.Result.{err_from_is_err_and}
use Rattle.std.specs.HashMap.{hash_map_len}
use Rattle.std.specs.Prelude.{slice_get, slice_index_or}
use Rattle.mp4_boxes.specs.declared.trak.TrakBox.{TrakBox}
use Rattle.mp4_media.specs.FileBoxes.{opened_movie}
use Rattle.mp4_remux.specs.Headers.{IsShownUntil}
use Rattle.mp4_remux.specs.Same.{IsTrackAsBefore}
use Rattle.mp4_remux.specs.Refused.{KeepsMovie, KeepsSamples}
use Rattle.mp4_remux.specs.Remuxed.{ids_of}
use Rattle.mp4_remux.specs.Why.{most_samples}
use Rattle.mp4_remux.specs.declared.layout_error.LayoutError.{LayoutError}
use Rattle.mp4_remux.proofs.Counting.{id_at, more_samples}
use Rattle.mp4_remux.proofs.Naming.{why_among}
use Rattle.mp4_remux.proofs.Refusing.{keeps_track_too, other_among}
use Rattle.mp4_remux.proofs.SameIds.{have_same_ids}
use Rattle.mp4_remux.proofs.Numbered.{at_index, each_more}
use Rattle.mp4_remux.proofs.Sameness.{got_within}
use Rattle.mp4_remux.proofs.same.check_same.Goals as goal

pub loop-i-preserved : goal.loop-i-preserved
loop-i-preserved c =
    let l = c.args.layout.now in
    let traks = c.args.after.now.moov.traks in
    let inv = c.loop-i.invariant in
    let trak = c.index-traks-i.result in
    let Same = λ (t : TrakBox). IsTrackAsBefore l.source_len l.made.items l.pieces.items
    (opened_movie c.args.before.now) (opened_movie c.args.after.now) t.tkhd.track_id in
    let Media = λ (t : TrakBox). IsShownUntil (opened_movie c.args.after.now) t.tkhd.track_id t.mdia.mdhd.duration in
    let at : trak ≡ slice_index_or traks c.loop-i.i trak =
    c.index-traks-i.is ∙ ap (λ (ts : List TrakBox). slice_index_or ts c.loop-i.i trak) c.as_slice-traks.ensures in
    let there : slice_get traks c.loop-i.i ≡ Some trak =
    at_index traks c.loop-i.i trak (omega (arith, ap length c.as_slice-traks.ensures, c.loop-i-test.true))
    ∙ ap (λ (t : TrakBox). Some t) (sym at) in
    record {
      upto = omega arith;
      few = omega (arith, inv.few);
      traks = inv.traks;
      have = (
        inv.have.0 + c.in_ok-left.field-0,
        (
          more_samples (opened_movie c.args.before.now) (ids_of c.args.after.now.moov) c.loop-i.i inv.have.0
              c.in_ok-left.field-0 trak.tkhd.track_id inv.have.1.0 (id_at traks c.loop-i.i trak there)
              c.in_ok-left.ensures.counted,
          omega (arith, inv.have.1.1, c.in_ok-left.ensures.few),
        ),
      );
      same =
          each_more traks Same c.loop-i.i trak inv.same (subst Same at c.in_ok-left.ensures.same);
      media = λ is.
          each_more traks Media c.loop-i.i trak (inv.media is) (subst Media at (c.in_ok-left.ensures.media is));
    }

pub returns-clause-tracks : goal.returns-clause-tracks
returns-clause-tracks c = λ t i there.
    let within = got_within c.args.after.now.moov.traks i t there in
    c.loop-i.invariant.same t i
    (omega (arith, within, ap length c.as_slice-traks.ensures, c.loop-i-test.false)) there

pub returns-clause-media : goal.returns-clause-media
returns-clause-media c = λ is t i there.
    let within = got_within c.args.after.now.moov.traks i t there in
    c.loop-i.invariant.media is t i
    (omega (arith, within, ap length c.as_slice-traks.ensures, c.loop-i-test.false)) there

pub returns-in_err-left-clause-why : goal.returns-in_err-left-clause-why
returns-in_err-left-clause-why c =
    let p = err_from_is_err_and c.from_residual.result c.from_residual.ensures.1 in
    let traks = c.args.after.now.moov.traks in
    let inv = c.loop-i.invariant in
    let trak = c.index-traks-i.result in
    let at : trak ≡ slice_index_or traks c.loop-i.i trak =
    c.index-traks-i.is ∙ ap (λ (ts : List TrakBox). slice_index_or ts c.loop-i.i trak) c.as_slice-traks.ensures in
    let there : slice_get traks c.loop-i.i ≡ Some trak =
    at_index traks c.loop-i.i trak (omega (arith, ap length c.as_slice-traks.ensures, c.loop-i-test.true))
    ∙ ap (λ (t : TrakBox). Some t) (sym at) in
    rw (p.1 ∙ ap (λ (e : LayoutError). Err e) p.2)
    (rw (c.if-not-has_ids.ensures.0 refl) at
    (why_among trak.tkhd.track_id c.loop-i.left (most_samples c.args.layout.now.source_len)
    (ids_of c.args.after.now.moov) (opened_movie c.args.before.now) c.loop-i.i inv.have.0
    (id_at traks c.loop-i.i trak there) inv.have.1.0 inv.have.1.1 _ c.in_err-left.ensures.why))

pub returns-then-len-clause-why : goal.returns-then-len-clause-why
returns-then-len-clause-why c =
    have_same_ids c.args.before.now c.requires.before
    (omega (arith, c.if-len.true, c.len.ensures.len, ap hash_map_len c.tracks.ensures))

pub returns-in_err-left-clause-other : goal.returns-in_err-left-clause-other
returns-in_err-left-clause-other c =
    let p = err_from_is_err_and c.from_residual.result c.from_residual.ensures.1 in
    let traks = c.args.after.now.moov.traks in
    let trak = c.index-traks-i.result in
    let l = c.args.layout.now in
    let before = opened_movie c.args.before.now in
    let after = opened_movie c.args.after.now in
    let at : trak ≡ slice_index_or traks c.loop-i.i trak =
    c.index-traks-i.is ∙ ap (λ (ts : List TrakBox). slice_index_or ts c.loop-i.i trak) c.as_slice-traks.ensures in
    let there : slice_get traks c.loop-i.i ≡ Some trak =
    at_index traks c.loop-i.i trak (omega (arith, ap length c.as_slice-traks.ensures, c.loop-i-test.true))
    ∙ ap (λ (t : TrakBox). Some t) (sym at) in
    rw (p.1 ∙ ap (λ (e : LayoutError). Err e) p.2)
    (other_among trak.tkhd.track_id c.loop-i.i c.args.ids.now
    (rw (c.if-not-has_ids.ensures.0 refl) at (id_at traks c.loop-i.i trak there)) l.pieces.items l.source_len l.len
    before after (KeepsSamples c.args.made before after trak → ⊥)
    (KeepsMovie c.args.made before after c.args.ids.now → ⊥)
    (λ no keeps. no (keeps_track_too c.args.made before after c.args.ids.now trak c.loop-i.i there keeps)) _
    c.in_err-left.ensures.other)
