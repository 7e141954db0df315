-- What was written to an empty buffer is all of it; a file that isn't gathered has the reason of the call.
use Rattle.std.proofs.lemmas.Result.{err_from_is_err_and}
use Rattle.mp4_remux.specs.Gathered.{IsGathered}
use Rattle.mp4_c.proofs.Remuxing.{from_nothing, neither_refuses}
use Rattle.mp4_c.proofs.remuxed.gathered.Goals as goal

pub returns-clause-gathered : goal.returns-clause-gathered
returns-clause-gathered c =
    let written = c.in_ok-gather.ensures.written in
    from_nothing (IsGathered c.args.file.now) c.in_ok-bytes.bytes.items c.gather.new.sink.items written.0
    c.in_ok-bytes.ensures.items written.1.0 written.1.1

pub returns-in_err-gather-clause-refused : goal.returns-in_err-gather-clause-refused
returns-in_err-gather-clause-refused c =
    let step = c.from_residual-in_err-gather in
    let p = err_from_is_err_and step.result step.ensures.1 in
    let why = c.in_err-gather.ensures in
    rw (p.1, p.2) (record {
      refused = neither_refuses _ why.refused;
      fault = why.fault;
      names = why.names;
      more = (why.as_it_is, why.why);
    })
