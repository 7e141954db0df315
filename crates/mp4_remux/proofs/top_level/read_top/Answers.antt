use Rattle.std.proofs.Common.{◌∙◌, Err, ap}
use Rattle.std.proofs.lemmas.Result.{err_from_is_err_and}
use Rattle.mp4_remux.specs.declared.error.RemuxError.{RemuxError}
use Rattle.mp4_remux.proofs.Faults.{no_header_there}
use Rattle.mp4_remux.proofs.top_level.read_top.Goals as goal

pub returns-in_err-header-clause-named : goal.returns-in_err-header-clause-named
returns-in_err-header-clause-named g c =
    let p = err_from_is_err_and c.from_residual.result c.from_residual.ensures.1 in
    rw (p.1 ∙ ap (λ (e : RemuxError). Err e) p.2)
    (no_header_there (g.S.ByteSource.contents c.args.cursor.now.source)
    (g.S.ByteSource.can_refuse c.args.cursor.now.source) c.in_err-header.field-0.0 c.args.place
    (rw c.set_position.ensures at c.in_err-header.ensures.answer))
