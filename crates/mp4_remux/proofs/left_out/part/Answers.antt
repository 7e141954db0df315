use Rattle.std.proofs.Common.{arith, refl, sym, ◌∙◌}
use Rattle.mp4_remux.specs.References.{goes, stays}
use Rattle.mp4_remux.proofs.Finding.{one_stays}
use Rattle.mp4_remux.proofs.Referring.{pass_all, pass_less, pass_more}
use Rattle.mp4_remux.proofs.left_out.part.Goals as goal

pub loop-i-preserved-then-stays : goal.loop-i-preserved-then-stays
loop-i-preserved-then-stays c =
    let inv = c.loop-i.invariant in
    let both = one_stays c.args.leaves_some c.args.sorted.now c.args.list.now _ _ _ c.loop-i.i _ _
    c.in_ok-push.ensures.items c.loop-i-test.true refl inv.staying inv.left_out
    (sym c.stays.ensures ∙ c.if-stays.true) in
    record {
      staying = both.0;
      left_out = both.1;
      some = inv.some;
      sorted_is = inv.sorted_is;
      list_is = inv.list_is;
    }

pub loop-i-preserved : goal.loop-i-preserved
loop-i-preserved c =
    let inv = c.loop-i.invariant in
    record {
      staying = pass_less (stays c.args.leaves_some c.args.sorted.now) c.args.list.now
          c.loop-i.parted.staying.items c.loop-i.i _ _ c.loop-i-test.true refl inv.staying
          (sym c.stays.ensures ∙ c.if-stays.false);
      left_out = rw c.in_ok-push-2.ensures.items (pass_more (goes c.args.leaves_some c.args.sorted.now)
          c.args.list.now c.loop-i.parted.left_out.items c.loop-i.i _ _ c.loop-i-test.true refl inv.left_out
          (sym c.goes.ensures ∙ c.if-not-goes.false));
      some = inv.some;
      sorted_is = inv.sorted_is;
      list_is = inv.list_is;
    }

pub loop-i-preserved-then-not-goes : goal.loop-i-preserved-then-not-goes
loop-i-preserved-then-not-goes c =
    let inv = c.loop-i.invariant in
    record {
      staying = pass_less (stays c.args.leaves_some c.args.sorted.now) c.args.list.now
          c.loop-i.parted.staying.items c.loop-i.i _ _ c.loop-i-test.true refl inv.staying
          (sym c.stays.ensures ∙ c.if-stays.false);
      left_out = pass_less (goes c.args.leaves_some c.args.sorted.now) c.args.list.now
          c.loop-i.parted.left_out.items c.loop-i.i _ _ c.loop-i-test.true refl inv.left_out
          (sym c.goes.ensures ∙ c.if-not-goes.true);
      some = inv.some;
      sorted_is = inv.sorted_is;
      list_is = inv.list_is;
    }

pub returns-clause-staying : goal.returns-clause-staying
returns-clause-staying c =
    pass_all (stays c.args.leaves_some c.args.sorted.now) c.args.list.now c.loop-i.parted.staying.items c.loop-i.i
    (omega (arith, c.loop-i-test.false)) c.loop-i.invariant.staying

pub returns-clause-left_out : goal.returns-clause-left_out
returns-clause-left_out c =
    pass_all (goes c.args.leaves_some c.args.sorted.now) c.args.list.now c.loop-i.parted.left_out.items c.loop-i.i
    (omega (arith, c.loop-i-test.false)) c.loop-i.invariant.left_out
