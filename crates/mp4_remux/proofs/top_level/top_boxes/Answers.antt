use Rattle.std.proofs.Common.{arith, ◌∙◌, Err, ap}
use Rattle.std.proofs.lemmas.Result.{err_from_is_err_and}
use Rattle.mp4_remux.specs.declared.error.RemuxError.{RemuxError}
use Rattle.mp4_remux.proofs.TopBoxes.{all_boxes, no_boxes, one_less, one_more, past_end}
use Rattle.mp4_remux.proofs.top_level.top_boxes.Goals as goal

pub loop-cursor-preserved : goal.loop-cursor-preserved
loop-cursor-preserved g c =
    let inv = c.loop-cursor.invariant in
    let top = c.in_ok-next.ensures in
    record {
      measured = rw (top.contents, top.same_len) inv.measured;
      contents = rw top.contents inv.contents;
      can_refuse = rw top.can_refuse inv.can_refuse;
      len = inv.len;
      all = rw c.in_ok-push.ensures.items (one_more (g.S.ByteSource.contents c.args.source) c.loop-cursor.boxes.items
          c.in_ok-next.next c.loop-cursor.place inv.all top.place (rw inv.contents at top.top));
      rest = one_less (g.S.ByteSource.contents c.args.source) c.args.len c.loop-cursor.place c.in_ok-next.next
          c.requires (omega (arith, c.fits.ensures.0 c.loop-cursor-test.true)) top.place (rw inv.contents at top.top)
          inv.rest;
    }

pub returns-clause-boxes : goal.returns-clause-boxes
returns-clause-boxes g c =
    all_boxes (g.S.ByteSource.contents c.args.source) c.args.len c.loop-cursor.place c.loop-cursor.boxes.items
    c.requires (past_end _ _ c.fits.result c.loop-cursor-test.false c.fits.ensures.1) c.loop-cursor.invariant.all

pub returns-in_err-next-clause-none : goal.returns-in_err-next-clause-none
returns-in_err-next-clause-none g c =
    let p = err_from_is_err_and c.from_residual-in_err-next.result c.from_residual-in_err-next.ensures.1 in
    let inv = c.loop-cursor.invariant in
    rw (p.1 ∙ ap (λ (e : RemuxError). Err e) p.2)
    (λ named. no_boxes (g.S.ByteSource.contents c.args.source) c.args.len c.loop-cursor.place c.requires
    (omega (arith, c.fits.ensures.0 c.loop-cursor-test.true))
    (rw inv.contents at (c.in_err-next.ensures.named named)) inv.rest)
