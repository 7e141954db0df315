use Rattle.std.proofs.Common.{◌⊎◌, inl, inr}
use Rattle.std.proofs.lemmas.Result.{err_from_is_err_and}
use Rattle.mp4_codec.specs.Cause.{cause_of}
use Rattle.mp4_codec.specs.Bytes.{list_at}
use Rattle.mp4_codec.proofs.ListLoop.{goes_on, ends, is_done}
use Rattle.mp4_entry.specs.Avcc.{unit_at}
use Rattle.mp4_extract.specs.ParameterSets.{after_units}
use Rattle.mp4_extract.proofs.parameter_sets.read_units.Goals as goal

-- where memory did not run out
else_then : {A B C : Type 0} → (B → C) → A ⊎ B → A ⊎ C
else_then f (inl a) = inl a
else_then f (inr b) = inr (f b)

pub returns-in_err-unit : goal.returns-in_err-unit
returns-in_err-unit c =
    let p = err_from_is_err_and c.from_residual.result c.from_residual.ensures.1 in
    let total = after_units c.args.list.now (list_at unit_at c.args.count c.args.fields.now) in
    rw (p.1, p.2) (else_then (λ refused. ends unit_at (cause_of c.in_err-unit.field-0.0) c.loop.list c.args.count
    c.loop.counter c.loop.fields total c.loop-test.true refused c.loop.invariant) c.in_err-unit.ensures)

pub loop-preserved : goal.loop-preserved
loop-preserved c =
    let total = after_units c.args.list.now (list_at unit_at c.args.count c.args.fields.now) in
    rw c.in_ok-push.ensures.ok
    (goes_on unit_at c.loop.list c.args.count c.loop.counter c.loop.fields c.in_ok-unit.unit c.read_unit.new.fields
    total c.loop-test.true c.in_ok-unit.ensures c.loop.invariant)

pub returns : goal.returns
returns c =
    let total = after_units c.args.list.now (list_at unit_at c.args.count c.args.fields.now) in
    is_done unit_at c.loop.list c.args.count c.loop.counter c.loop.fields total c.loop-test.false c.loop.invariant
