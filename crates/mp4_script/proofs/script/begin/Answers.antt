use Rattle.mp4_script.proofs.Standard.{begun}
use Rattle.mp4_script.proofs.script.begin.Goals as goal

pub returns : goal.returns
returns c =
    let writer = c.write_start.result in
    let started = c.write_start.ensures in
    begun c.in_ok-config.config c.new.result.items writer c.new.ensures.items c.in_ok-config.ensures started.cause
    started.ok
