use Rattle.std.proofs.Common.{◌∙◌, Err, ap}
use Rattle.std.proofs.lemmas.Result.{err_from_is_err_and}
use Rattle.mp4_remux.specs.declared.error.RemuxError.{RemuxError}
use Rattle.mp4_remux.proofs.Naming.{names_known, within_known}
use Rattle.mp4_remux.proofs.frame.checked_bytes.Goals as goal

pub returns-in_err-check_box-clause-names : goal.returns-in_err-check_box-clause-names
returns-in_err-check_box-clause-names g c =
    let p = err_from_is_err_and c.from_residual-in_err-check_box.result c.from_residual-in_err-check_box.ensures.1 in
    rw (p.1 ∙ ap (λ (e : RemuxError). Err e) p.2)
    (names_known (g.S.ByteSource.contents c.args.source.now) _
    (within_known (g.S.ByteSource.contents c.args.source.now) c.in_ok-bytes.bytes.items c.args.one.end
    c.in_ok-bytes.ensures.ends) _ (rw c.deref.ensures.value at c.in_err-check_box.ensures.names))
