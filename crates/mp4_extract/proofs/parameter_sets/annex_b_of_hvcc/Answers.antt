use Rattle.std.proofs.Common.{rules, ◌≡◌, Ok}
use Rattle.std.proofs.lemmas.Result.{err_from_is_err_and}
use Rattle.mp4_extract.specs.ParameterSets.{array_count}
use Rattle.mp4_extract.proofs.parameter_sets.annex_b_of_hvcc.Goals as goal

pub returns-in_err-read_arrays-clause-memory : goal.returns-in_err-read_arrays-clause-memory
unfolding array_count
returns-in_err-read_arrays-clause-memory c =
    let residual = c.from_residual-in_err-read_arrays in
    let p = err_from_is_err_and residual.result residual.ensures.1 in
    let there : array_count c.args.hvcc.now ≡ Ok (c.in_ok-count.count, c.u8-2.new.self) = search rules in
    rw (p.1, p.2) (λ memory.
    ((c.in_ok-count.count, c.u8-2.new.self), there, c.in_err-read_arrays.ensures.some))
