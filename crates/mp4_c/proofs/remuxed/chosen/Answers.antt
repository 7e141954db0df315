-- What was written to an empty buffer is all of it; tracks that aren't chosen have the reason of the call.
use Rattle.std.proofs.lemmas.Result.{err_from_is_err_and}
use Rattle.mp4_c.specs.RemuxedReply.{HasChosen}
use Rattle.mp4_c.proofs.Remuxing.{from_nothing, neither_refuses}
use Rattle.mp4_c.proofs.remuxed.chosen.Goals as goal

pub returns-clause-chosen : goal.returns-clause-chosen
returns-clause-chosen c =
    let written = c.in_ok-choose.ensures.written in
    from_nothing (λ bytes. HasChosen c.args.file.now bytes c.args.track_ids.now) c.new-bytes.result.items
    c.choose.new.sink.items written.0 c.new-bytes.ensures.items written.1.0 (_, written.1.1)

pub returns-in_err-choose-clause-refused : goal.returns-in_err-choose-clause-refused
returns-in_err-choose-clause-refused c =
    let step = c.from_residual in
    let p = err_from_is_err_and step.result step.ensures.1 in
    let why = c.in_err-choose.ensures in
    rw (p.1, p.2) (record {
      refused = neither_refuses _ why.refused;
      fault = why.fault;
      names = why.names;
      more = (why.missing, why.why);
    })
