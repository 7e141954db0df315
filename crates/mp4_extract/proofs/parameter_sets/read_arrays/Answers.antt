use Rattle.std.proofs.Common.{◌⊎◌, inl, inr}
use Rattle.std.proofs.lemmas.Result.{err_from_is_err_and}
use Rattle.mp4_codec.specs.Cause.{cause_of}
use Rattle.mp4_extract.specs.ParameterSets.{after_units, arrays_at}
use Rattle.mp4_extract.proofs.ArrayLoop.{goes_on, ends, is_done}
use Rattle.mp4_extract.proofs.parameter_sets.read_arrays.Goals as goal

-- where memory did not run out
else_then : {A B C : Type 0} → (B → C) → A ⊎ B → A ⊎ C
else_then f (inl a) = inl a
else_then f (inr b) = inr (f b)

pub returns-in_err-read_array-clause-arrays : goal.returns-in_err-read_array-clause-arrays
returns-in_err-read_array-clause-arrays c =
    let p = err_from_is_err_and c.from_residual.result c.from_residual.ensures.1 in
    let total = after_units c.args.list.now (arrays_at c.args.count c.args.fields.now) in
    rw (p.1, p.2) (else_then (λ refused. ends (cause_of c.in_err-read_array.field-0.0) c.loop.list c.args.count
    c.loop.counter c.loop.fields total c.loop-test.true refused c.loop.invariant) c.in_err-read_array.ensures)

pub loop-preserved : goal.loop-preserved
loop-preserved c =
    let total = after_units c.args.list.now (arrays_at c.args.count c.args.fields.now) in
    goes_on c.loop.list c.args.count c.loop.counter c.loop.fields c.read_array.new.list c.read_array.new.fields total
    c.loop-test.true c.in_ok-read_array.ensures c.loop.invariant

pub returns-clause-arrays : goal.returns-clause-arrays
returns-clause-arrays c =
    let total = after_units c.args.list.now (arrays_at c.args.count c.args.fields.now) in
    is_done c.loop.list c.args.count c.loop.counter c.loop.fields total c.loop-test.false c.loop.invariant
