use Rattle.mp4_fragments.proofs.Cursors.{run_sample_is}
use Rattle.mp4_fragments.proofs.cursor.RunCursor.run_sample.Goals as goal

pub returns : goal.returns
returns c = λ runs at.
    run_sample_is runs c.args.self.now c.run_sample_run_start.result at c.requires
    (λ p here. c.run_sample_run_start.ensures p.at (rw (← here.run, ← here.defaults) here.begins))
