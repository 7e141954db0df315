use Rattle.std.proofs.Common.{◌∙◌, arith, refl, sym}
use Rattle.mp4_remux.specs.Frames.{stays_beside}
use Rattle.mp4_remux.specs.declared.top_level.TopBox.{TopBox}
use Rattle.mp4_remux.proofs.Referring.{pass_all, pass_less, pass_more}
use Rattle.mp4_remux.proofs.frame.others_of.Goals as goal

pub loop-i-preserved : goal.loop-i-preserved
loop-i-preserved c =
    let inv = c.loop-i.invariant in
    record {
      others = rw c.in_ok-push.ensures.items (pass_more
          (λ (b : TopBox). stays_beside c.args.is_gathered b.name) c.args.boxes.now c.loop-i.others.items c.loop-i.i _
          _ c.loop-i-test.true refl inv.others (sym c.stays_beside.ensures ∙ c.if-not-stays_beside.false));
      gathered = inv.gathered;
      boxes_are = inv.boxes_are;
    }

pub loop-i-preserved-then-not-stays_beside : goal.loop-i-preserved-then-not-stays_beside
loop-i-preserved-then-not-stays_beside c =
    let inv = c.loop-i.invariant in
    record {
      others = pass_less (λ (b : TopBox). stays_beside c.args.is_gathered b.name) c.args.boxes.now
          c.loop-i.others.items c.loop-i.i _ _ c.loop-i-test.true refl inv.others
          (sym c.stays_beside.ensures ∙ c.if-not-stays_beside.true);
      gathered = inv.gathered;
      boxes_are = inv.boxes_are;
    }

pub returns : goal.returns
returns c =
    pass_all (λ (b : TopBox). stays_beside c.args.is_gathered b.name) c.args.boxes.now c.loop-i.others.items
    c.loop-i.i (omega (arith, c.loop-i-test.false)) c.loop-i.invariant.others
