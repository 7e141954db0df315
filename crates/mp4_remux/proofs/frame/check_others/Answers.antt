use Rattle.std.proofs.Common.{◌∙◌, Err, ap}
use Rattle.std.proofs.lemmas.Result.{err_from_is_err_and}
use Rattle.mp4_remux.specs.declared.error.RemuxError.{RemuxError}
use Rattle.mp4_remux.proofs.Naming.{names_known, one_of_known}
use Rattle.mp4_remux.proofs.frame.check_others.Goals as goal

pub returns-in_err-check_top_level-clause-names : goal.returns-in_err-check_top_level-clause-names
returns-in_err-check_top_level-clause-names g c =
    let p = err_from_is_err_and c.from_residual-in_err-check_top_level.result
    c.from_residual-in_err-check_top_level.ensures.1 in
    rw (p.1 ∙ ap (λ (e : RemuxError). Err e) p.2)
    (names_known (g.S.ByteSource.contents c.args.source.now) _
    (one_of_known (g.S.ByteSource.contents c.args.source.now) c.args.boxes.now c.requires.boxes) _
    c.in_err-check_top_level.ensures.names)
