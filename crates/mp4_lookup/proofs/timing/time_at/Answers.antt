use Rattle.mp4_lookup.proofs.Steps.{time_first}
use Rattle.mp4_lookup.proofs.timing.time_at.Goals as goal

pub returns-in-Some-clause-time : goal.returns-in-Some-clause-time
returns-in-Some-clause-time g c =
    let run = c.in-Some.ensures.run in
    time_first c.args.runs.now c.args.track_id c.args.k c.in-Some.run' run.0 run.1
