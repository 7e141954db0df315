use Rattle.mp4_fragments.proofs.Walking.{Walks-run}
use Rattle.mp4_fragments.proofs.placing.add_run.Goals as goal

pub returns : goal.returns
returns c =
    let of = c.in_ok-entry.ensures in
    Walks-run _ c.args.base_data_offset c.args.defaults c.args.run.now c.args.end c.run_begin-at.result
    c.at_by_checkpoints-after.result c.in_ok-entry.entry _ _ c.args.t c.args.i (λ find k. k)
    c.run_begin-at.ensures c.at_by_checkpoints-after.ensures of.at of.traf of.run of.checks of.only
    c.in_ok-push.ensures
