use Rattle.std.proofs.Common.{◌∙◌, arith}
use Rattle.mp4_remux.proofs.Copying.{block_more}
use Rattle.mp4_remux.proofs.copy.copy_all.Goals as goal

pub loop-place-preserved : goal.loop-place-preserved
loop-place-preserved g c =
    let here = c.loop-place.invariant in
    record {
      upto = omega (arith, c.min-n.ensures);
      len = here.len;
      contents = c.read_into.ensures.contents ∙ here.contents;
      can_refuse = c.read_into.ensures.can_refuse ∙ here.can_refuse;
      sink_can_refuse = c.append.ensures.can_refuse ∙ here.sink_can_refuse;
      count =
          omega (arith, c.in_ok-append.ensures.all, here.count, c.deref.ensures.len, c.in_ok-read_into.ensures.len);
      copied =
          block_more (g.S.ByteSource.contents c.args.source.now) c.loop-place.place c.min-n.result _ _ _ _ here.copied
          (rw here.contents at c.in_ok-read_into.ensures.value)
          (rw c.deref.ensures.value at c.in_ok-append.ensures.ok);
    }
