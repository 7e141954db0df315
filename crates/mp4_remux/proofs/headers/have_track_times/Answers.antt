use Rattle.std.proofs.Common.{arith, refl, subst, sym}
use Rattle.mp4_boxes.specs.declared.trak.TrakBox.{TrakBox}
use Rattle.mp4_remux.specs.Headers.{IsTrackTime}
use Rattle.mp4_remux.proofs.Numbered.{at_index, each_more}
use Rattle.mp4_remux.proofs.Sameness.{got_within}
use Rattle.mp4_remux.proofs.headers.have_track_times.Goals as goal

pub loop-i-preserved : goal.loop-i-preserved
loop-i-preserved c =
    let P = λ (t : TrakBox). IsTrackTime t c.args.clock in
    record {
      upto = omega (arith, c.loop-i-test.true);
      traks = refl;
      clock = refl;
      same =
          each_more c.args.traks.now P c.loop-i.i c.index-traks-i.result c.loop-i.invariant.same
          (subst P c.index-traks-i.is (c.if-not-has_track_time.ensures.0 refl));
    }

pub returns-then-not-has_track_time : goal.returns-then-not-has_track_time
returns-then-not-has_track_time c = (
  λ is. absurd cc,
  λ each.
      let trak = c.index-traks-i.result in
      let this = each _ c.loop-i.i (at_index c.args.traks.now c.loop-i.i trak c.loop-i-test.true) in
      c.if-not-has_track_time.ensures.1
      (subst (λ (t : TrakBox). IsTrackTime t c.args.clock) (sym c.index-traks-i.is) this),
)

pub returns : goal.returns
returns c = (
  λ _ t i there.
      c.loop-i.invariant.same t i (omega (arith, got_within c.args.traks.now i t there, c.loop-i-test.false)) there,
  λ _. refl,
)
