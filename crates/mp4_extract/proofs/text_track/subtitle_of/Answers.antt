use Rattle.std.proofs.Common.{rules}
use Rattle.std.proofs.lemmas.Result.{err_from_is_err_and}
use Rattle.mp4_extract.proofs.Decoded.{time_wants_none}
use Rattle.mp4_extract.proofs.text_track.subtitle_of.Goals as goal

pub returns-in_err-start-clause-memory : goal.returns-in_err-start-clause-memory
returns-in_err-start-clause-memory c =
    let p = err_from_is_err_and c.from_residual.result c.from_residual.ensures.1 in
    rw (p.1, p.2) (λ memory. absurd (time_wants_none _ c.args.timescale c.in_err-start.field-0.0
    c.in_err-start.ensures memory))

pub returns-in_err-lasts-clause-memory : goal.returns-in_err-lasts-clause-memory
returns-in_err-lasts-clause-memory c =
    let residual = c.from_residual-in_err-lasts in
    let p = err_from_is_err_and residual.result residual.ensures.1 in
    rw (p.1, p.2) (λ memory. absurd (time_wants_none _ c.args.timescale c.in_err-lasts.field-0.0
    c.in_err-lasts.ensures memory))

pub returns-in_err-text-clause-memory : goal.returns-in_err-text-clause-memory
returns-in_err-text-clause-memory c =
    let residual = c.from_residual-in_err-text in
    let p = err_from_is_err_and residual.result residual.ensures.1 in
    rw (p.1, p.2) (λ memory. (
      (c.in_ok-start.start, c.in_ok-lasts.lasts),
      search rules,
      c.in_err-text.ensures.memory memory,
    ))
