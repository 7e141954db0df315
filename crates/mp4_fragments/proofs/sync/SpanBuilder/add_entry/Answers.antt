use Rattle.std.proofs.lemmas.Result.{on_ok_weaker}
use Rattle.mp4_fragments.specs.Index.{run_at}
use Rattle.mp4_fragments.proofs.Decoding.{placed_is, placed_nowhere}
use Rattle.mp4_fragments.proofs.sync.SpanBuilder.add_entry.Goals as goal

pub returns-in-None-clause-count : goal.returns-in-None-clause-count
returns-in-None-clause-count c = λ p there.
    absurd (placed_nowhere (run_at c.args.trafs.now c.args.track) c.args.entry.now p c.in-None.ensures there)

pub returns-in-Some-clause-built : goal.returns-in-Some-clause-built
returns-in-Some-clause-built c = on_ok_weaker c.add_run.result
    (λ made p there. rw (placed_is (run_at c.args.trafs.now c.args.track) c.args.entry.now c.in-Some.run'.now
    c.in-Some.defaults p c.in-Some.ensures there) made)
    c.add_run.ensures.built

pub returns-in-Some-clause-count : goal.returns-in-Some-clause-count
returns-in-Some-clause-count c = on_ok_weaker c.add_run.result
    (λ count p there. rw (placed_is (run_at c.args.trafs.now c.args.track) c.args.entry.now c.in-Some.run'.now
    c.in-Some.defaults p c.in-Some.ensures there) count)
    c.add_run.ensures.count
