use Rattle.mp4_remux.specs.Splice.{kept_stretch}
use Rattle.mp4_remux.specs.declared.data.Extent.{Extent}
use Rattle.mp4_remux.proofs.LaidPieces.{follow_more, stretches_more}
use Rattle.mp4_remux.proofs.Rebuilding.{then_more}
use Rattle.mp4_remux.proofs.rebuilt_layout.push_extents.Goals as goal

pub loop-i-preserved : goal.loop-i-preserved
loop-i-preserved c =
    let d : Extent = record { place = 0; end = 0 } in
    let es = c.args.extents.now in
    let i = c.loop-i.i in
    record {
      more = then_more _ _ _ _ c.loop-i.invariant.more c.in_ok-push_piece.ensures.bytes;
      stretches = stretches_more (λ (e : Extent). kept_stretch e.place e.end) es i d _ _ _ c.loop-i-test.true
          c.loop-i.invariant.stretches c.in_ok-push_piece.ensures.stretches;
      follow = follow_more (λ (e : Extent). e.place) (λ (e : Extent). e.end) es i d _ _ _ c.loop-i-test.true
          c.loop-i.invariant.follow c.in_ok-push_piece.ensures.follow;
    }
