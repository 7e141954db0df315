use Rattle.std.proofs.Common.{◌∙◌, Err, ap}
use Rattle.std.proofs.lemmas.Result.{err_from_is_err_and}
use Rattle.mp4_remux.specs.declared.error.RemuxError.{RemuxError}
use Rattle.mp4_remux.proofs.Causes.{each_caused, one_named, some_box}
use Rattle.mp4_remux.proofs.segment_index.check_moved.Goals as goal

pub returns-in_err-check_index-clause-cause : goal.returns-in_err-check_index-clause-cause
returns-in_err-check_index-clause-cause g c =
    let p = err_from_is_err_and c.from_residual.result c.from_residual.ensures.1 in
    rw (p.1 ∙ ap (λ (e : RemuxError). Err e) p.2)
    (each_caused (g.S.ByteSource.contents c.args.source.now) c.args.boxes.now c.loop-i.i some_box _ c.loop-i-test.true
    (rw c.loop-i.invariant.contents at c.in_err-check_index.ensures.cause))

pub returns-in_err-check_top_box-clause-names : goal.returns-in_err-check_top_box-clause-names
returns-in_err-check_top_box-clause-names g c =
    let p = err_from_is_err_and c.from_residual-in_err-check_top_box.result
    c.from_residual-in_err-check_top_box.ensures.1 in
    rw (p.1 ∙ ap (λ (e : RemuxError). Err e) p.2)
    (one_named c.args.boxes.now c.loop-i.i some_box _ c.loop-i-test.true c.in_err-check_top_box.ensures.names)
