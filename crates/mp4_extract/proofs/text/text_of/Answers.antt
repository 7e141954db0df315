use Rattle.std.proofs.Common.{inl, inr, sym, ◌∙◌}
use Rattle.std.proofs.lemmas.Result.{err_from_is_err_and}
use Rattle.mp4_extract.proofs.Decoded.{cause_wants_none, text_refused}
use Rattle.mp4_extract.proofs.text.text_of.Goals as goal

pub returns-in_err-bytes-clause-refused : goal.returns-in_err-bytes-clause-refused
returns-in_err-bytes-clause-refused c =
    let p = err_from_is_err_and c.from_residual.result c.from_residual.ensures.1 in
    let cause = c.in_err-bytes.ensures.cause in
    rw (p.1, p.2) (inr (cause, inl (rw cause at c.in_err-bytes.ensures.bytes)))

pub returns-in_err-bytes-clause-memory : goal.returns-in_err-bytes-clause-memory
returns-in_err-bytes-clause-memory c =
    let p = err_from_is_err_and c.from_residual.result c.from_residual.ensures.1 in
    rw (p.1, p.2) (λ memory. absurd (cause_wants_none c.in_err-bytes.field-0.0 c.in_err-bytes.ensures.cause memory))

pub returns-then-begins_utf16-clause-refused : goal.returns-then-begins_utf16-clause-refused
returns-then-begins_utf16-clause-refused c =
    text_refused c.args.sample.now c.in_ok-bytes.bytes.now c.in_ok-bytes.ensures.bytes
    (sym c.begins_utf16.ensures ∙ c.if-begins_utf16.true) c.utf16_text.result c.utf16_text.ensures.refused
