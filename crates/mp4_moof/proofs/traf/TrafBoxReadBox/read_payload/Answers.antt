use Rattle.std.proofs.Common.{◌≡◌, true, false}
use Rattle.std.proofs.lemmas.Result.{err_from_is_err_and}
use Rattle.mp4_moof.proofs.Runs.{refused_late}
use Rattle.mp4_moof.proofs.traf.TrafBoxReadBox.read_payload.Goals as goal

pub returns-in_err-truns-clause-early : goal.returns-in_err-truns-clause-early
returns-in_err-truns-clause-early c =
    let refused = err_from_is_err_and c.from_residual-in_err-truns.result c.from_residual-in_err-truns.ensures.1 in
    rw refused.1
    (refused_late c.args.payload.now c.in_ok-tfhd.field-0 refused.0 c.in_ok-tfhd.ensures.value
    c.in_ok-tfhd.ensures.early (λ none. let shared : false ≡ true = c.in_err-truns.ensures.none none in absurd cc))
