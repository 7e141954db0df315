use Rattle.mp4_fragments.proofs.Places.{at_run_sample-on}
use Rattle.mp4_fragments.proofs.run_starts.at_later_run_sample.Goals as goal

pub returns : goal.returns
returns c = λ first e.
    let sizes = rw c.as_slice-sizes.ensures at c.sum_between.ensures in
    let durations = rw c.as_slice-durations.ensures at c.sum_between-2.ensures in
    rw (c.add.ensures, c.add-2.ensures)
    (at_run_sample-on c.args.run.now c.args.defaults first c.args.at c.args.from c.args.to
    c.sum_between.result c.sum_between-2.result sizes durations e)
