use Rattle.std.proofs.Common.{refl}
use Rattle.std.proofs.lemmas.Result.{err_from_is_err_and}
use Rattle.mp4_extract.proofs.Decoded.{no_units}
use Rattle.mp4_extract.proofs.text.utf16_text.Goals as goal

pub returns-in_err-units-clause-refused : goal.returns-in_err-units-clause-refused
returns-in_err-units-clause-refused c =
    let p = err_from_is_err_and c.from_residual.result c.from_residual.ensures.1 in
    rw (p.1, p.2) (no_units c.in_err-units.field-0.0 c.args.bytes.now _ refl
    (rw c.new-fields.ensures at c.in_err-units.ensures.units) c.in_err-units.ensures.cause)
