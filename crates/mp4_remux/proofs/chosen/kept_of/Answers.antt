use Rattle.std.proofs.Common.{arith, refl, sym, ◌∙◌, slice_index_or}
use Rattle.mp4_remux.proofs.Choosing.{kept_more, kept_less, kept_all}
use Rattle.mp4_remux.proofs.chosen.kept_of.Goals as goal

pub loop-i-preserved-then-not-contains : goal.loop-i-preserved-then-not-contains
loop-i-preserved-then-not-contains c =
    record {
      all = kept_less c.args.ids.now c.args.all.now c.loop-i.kept.items c.loop-i.i
          (slice_index_or c.args.all.now c.loop-i.i 0) 0 c.loop-i-test.true refl c.loop-i.invariant.all
          (sym c.contains.ensures.value ∙ c.if-not-contains.true);
      ids = c.loop-i.invariant.ids;
      list = c.loop-i.invariant.list;
    }

pub loop-i-preserved : goal.loop-i-preserved
loop-i-preserved c =
    record {
      all = rw c.in_ok-push.ensures.items (kept_more c.args.ids.now c.args.all.now c.loop-i.kept.items c.loop-i.i
          (slice_index_or c.args.all.now c.loop-i.i 0) 0 c.loop-i-test.true refl c.loop-i.invariant.all
          (sym c.contains.ensures.value ∙ c.if-not-contains.false));
      ids = c.loop-i.invariant.ids;
      list = c.loop-i.invariant.list;
    }

pub returns : goal.returns
returns c = record {
  ids = kept_all c.args.ids.now c.args.all.now c.loop-i.kept.items c.loop-i.i (omega (arith, c.loop-i-test.false))
      c.loop-i.invariant.all;
}
