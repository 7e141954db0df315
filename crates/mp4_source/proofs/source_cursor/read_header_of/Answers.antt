use Rattle.std.proofs.Common.{◌∙◌, ap, inr}
use Rattle.std.proofs.lemmas.Result.{err_from_is_err_and}
use Rattle.mp4_source.proofs.Parts.{further, header_of_part, both_known}
use Rattle.mp4_source.proofs.source_cursor.read_header_of.Goals as goal

pub returns-in_err-header_of-clause-answer : goal.returns-in_err-header_of-clause-answer
returns-in_err-header_of-clause-answer g c =
    let known = g.S.ByteSource.contents c.args.source.now in
    let p = err_from_is_err_and c.from_residual-in_err-header_of.result c.from_residual-in_err-header_of.ensures.1 in
    both_known known _ _
    (header_of_part known c.args.place _ c.read_exact_at.new.buf c.requires.room c.in_ok-read_exact_at.ensures.value)
    (λ bytes e. rw (p.1, p.2) (inr (e ∙ ap (further bytes c.args.place) c.in_err-header_of.ensures.value)))

pub returns-clause-answer : goal.returns-clause-answer
returns-clause-answer g c =
    let known = g.S.ByteSource.contents c.args.source.now in
    both_known known _ _
    (header_of_part known c.args.place _ c.read_exact_at.new.buf c.requires.room c.in_ok-read_exact_at.ensures.value)
    (λ bytes e. e ∙ ap (further bytes c.args.place) c.in_ok-header_of.ensures.value)
