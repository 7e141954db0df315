use Rattle.mp4_faults.specs.Inner.{inner}
use Rattle.mp4_faults.specs.WrongId.{HasFewer}
use Rattle.mp4_faults.proofs.Searching.{no-header}
use Rattle.mp4_faults.proofs.wrong_id.header_within.Goals as goal

pub returns-in_err-last : goal.returns-in_err-last
returns-in_err-last c =
    let id = c.args.id in
    let payload = c.args.payload.now in
    let fewer : HasFewer c.in_ok-middle.container.payload.now id.header 1 = c.in_err-last.ensures.answer in
    rw c.from_residual-in_err-last.ensures
    (no-header payload id.name id.number id.header c.in_ok-middle.middle (inner c.in_ok-middle.container)
    c.in_ok-middle.ensures.answer fewer)
