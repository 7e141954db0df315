use Rattle.mp4_codec.specs.declared.box_type.BoxType.TheVariants.{FtypBox}
use Rattle.mp4_remux.specs.Splice.{kept_stretch}
use Rattle.mp4_remux.specs.declared.top_level.TopBox.{TopBox}
use Rattle.mp4_remux.proofs.LaidPieces.{follow_more, stretches_more}
use Rattle.mp4_remux.proofs.Rebuilding.{then_more}
use Rattle.mp4_remux.proofs.rebuilt_layout.push_boxes.Goals as goal

pub loop-i-preserved : goal.loop-i-preserved
loop-i-preserved c =
    let d : TopBox = record { name = FtypBox; place = 0; end = 0 } in
    let es = c.args.boxes.now in
    let i = c.loop-i.i in
    record {
      more = then_more _ _ _ _ c.loop-i.invariant.more c.in_ok-push_piece.ensures.bytes;
      stretches = stretches_more (λ (e : TopBox). kept_stretch e.place e.end) es i d _ _ _ c.loop-i-test.true
          c.loop-i.invariant.stretches c.in_ok-push_piece.ensures.stretches;
      follow = follow_more (λ (e : TopBox). e.place) (λ (e : TopBox). e.end) es i d _ _ _ c.loop-i-test.true
          c.loop-i.invariant.follow c.in_ok-push_piece.ensures.follow;
    }
