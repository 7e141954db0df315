use Rattle.std.proofs.Common.{arith}
use Rattle.std.proofs.lemmas.Result.{err_from_is_err_and}
use Rattle.mp4_extract.proofs.form.SampleForm.apply.Goals as goal

pub returns-in_err-put_sample-in-AnnexB-clause-memory :
    goal.returns-in_err-put_sample-in-AnnexB-clause-memory
returns-in_err-put_sample-in-AnnexB-clause-memory c =
    let p = err_from_is_err_and c.from_residual.result c.from_residual.ensures.1 in
    rw (p.1, p.2, c.in-AnnexB.is) c.in_err-put_sample-in-AnnexB.ensures.memory

pub returns-in_err-put_sample-in-Adts-clause-memory :
    goal.returns-in_err-put_sample-in-Adts-clause-memory
returns-in_err-put_sample-in-Adts-clause-memory c =
    let residual = c.from_residual-in_err-put_sample-in-Adts in
    let p = err_from_is_err_and residual.result residual.ensures.1 in
    rw (p.1, p.2, c.in-Adts.is) (λ memory.
    let short = c.in_err-put_sample-in-Adts.ensures.memory memory in
    (short.0, omega (arith, short.1, c.clear.ensures.len, c.clear.ensures.capacity)))
