use Rattle.std.proofs.Common.{◌∙◌, Err, ap}
use Rattle.std.proofs.lemmas.Result.{err_from_is_err_and}
use Rattle.mp4_remux.specs.declared.error.RemuxError.{RemuxError}
use Rattle.mp4_remux.proofs.Causes.{each_caused, some_box}
use Rattle.mp4_remux.proofs.Framing.{none_anyhow}
use Rattle.mp4_remux.proofs.frame.check_fragments.Goals as goal

pub returns-in_err-bytes-clause-cause : goal.returns-in_err-bytes-clause-cause
returns-in_err-bytes-clause-cause g c =
    let p = err_from_is_err_and c.from_residual.result c.from_residual.ensures.1 in
    rw (p.1 ∙ ap (λ (e : RemuxError). Err e) p.2)
    (each_caused (g.S.ByteSource.contents c.args.source.now) c.args.boxes.now c.loop-one.one-index some_box _
    c.loop-one-test.true (rw c.loop-one.invariant.contents at c.in_err-bytes.ensures.cause))

pub returns-in_err-check_fragment-clause-cause : goal.returns-in_err-check_fragment-clause-cause
returns-in_err-check_fragment-clause-cause g c =
    let p = err_from_is_err_and c.from_residual-in_err-check_fragment.result
    c.from_residual-in_err-check_fragment.ensures.1 in
    rw (p.1 ∙ ap (λ (e : RemuxError). Err e) p.2)
    (none_anyhow (g.S.ByteSource.contents c.args.source.now) c.args.boxes.now _ c.in_err-check_fragment.ensures.cause)
