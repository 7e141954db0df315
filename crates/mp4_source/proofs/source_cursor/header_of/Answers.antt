use Rattle.std.proofs.Common.{◌∙◌, length, ap, arith, Err}
use Rattle.std.proofs.lemmas.Result.{err_from_is_err_and}
use Rattle.mp4_codec.specs.Cause.{cause_of}
use Rattle.mp4_codec.specs.Cursor.{Cursor}
use Rattle.mp4_source.proofs.Parts.{header_within, header_wants_none}
use Rattle.mp4_source.proofs.source_cursor.header_of.Goals as goal

pub returns-clause-upto : goal.returns-clause-upto
returns-clause-upto c =
    let within = header_within c.new-cursor.result c.in_ok-header.header c.read.new.reader
    c.in_ok-header.ensures.value in
    omega (arith, c.position.ensures, within, ap (λ (x : Cursor). length x.bytes) c.new-cursor.ensures)

pub returns-in_err-header-clause-memory : goal.returns-in_err-header-clause-memory
returns-in_err-header-clause-memory c =
    let p = err_from_is_err_and c.from_residual.result c.from_residual.ensures.1 in
    rw (p.1, p.2) (λ memory. header_wants_none c.new-cursor.result
    (c.in_err-header.ensures.value ∙ ap (λ e. Err (cause_of e)) memory))
