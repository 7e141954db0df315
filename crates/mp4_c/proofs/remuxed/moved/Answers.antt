-- A file that isn't moved has the reason of the call.
use Rattle.std.proofs.lemmas.Result.{err_from_is_err_and}
use Rattle.mp4_c.proofs.Remuxing.{neither_refuses}
use Rattle.mp4_c.proofs.remuxed.moved.Goals as goal

pub returns-in_err-move_to_front-clause-refused : goal.returns-in_err-move_to_front-clause-refused
returns-in_err-move_to_front-clause-refused c =
    let step = c.from_residual-in_err-move_to_front in
    let p = err_from_is_err_and step.result step.ensures.1 in
    let why = c.in_err-move_to_front.ensures in
    rw (p.1, p.2) (record {
      refused = neither_refuses _ why.refused;
      fault = why.fault;
      names = why.names;
      more = (why.as_it_is, why.why);
    })
