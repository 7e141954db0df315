use Rattle.std.proofs.Common.{arith, refl}
use Rattle.mp4_remux.specs.Headers.{IsEditAt}
use Rattle.mp4_remux.proofs.HeaderLaws.{edit_at, edit_is}
use Rattle.mp4_remux.proofs.Numbered.{at_index, each_numbered_more}
use Rattle.mp4_remux.proofs.Sameness.{got_within}
use Rattle.mp4_remux.proofs.headers.keeps_edits.Goals as goal

pub loop-i-preserved : goal.loop-i-preserved
loop-i-preserved c =
    let is = c.args.is.now in
    let was = c.args.was.now in
    let kept = c.if-not-is_kept_edit.ensures.0 refl in
    record {
      upto = omega (arith, c.loop-i-test.true);
      count = c.loop-i.invariant.count;
      is = refl;
      was = refl;
      each =
          each_numbered_more is (λ e j. IsEditAt was j e) c.loop-i.i _ c.loop-i.invariant.each
          (edit_at was is c.loop-i.i _ _ (omega (arith, c.loop-i-test.true, c.loop-i.invariant.count)) kept.0 kept.1);
    }

pub returns-then-not-is_kept_edit : goal.returns-then-not-is_kept_edit
returns-then-not-is_kept_edit c = (
  λ is. absurd cc,
  λ keeps.
      let is = c.args.is.now in
      let was = c.args.was.now in
      let at = keeps.each _ c.loop-i.i (at_index is c.loop-i.i _ c.loop-i-test.true) in
      c.if-not-is_kept_edit.ensures.1
      (edit_is was is c.loop-i.i _ _ (omega (arith, c.loop-i-test.true, c.loop-i.invariant.count)) at),
)

pub returns : goal.returns
returns c = (
  λ _. record {
    count = c.loop-i.invariant.count;
    each = λ e i there.
        c.loop-i.invariant.each e i (omega (arith, got_within c.args.is.now i e there, c.loop-i-test.false)) there;
  },
  λ _. refl,
)
