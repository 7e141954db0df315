use Rattle.std.proofs.Common.{[]}
use Rattle.mp4_fragments.specs.Fragments.{placed_runs}
use Rattle.mp4_fragments.specs.Index.{run_at}
use Rattle.mp4_fragments.proofs.Indexing.{Indexes-none}
use Rattle.mp4_fragments.proofs.Walking.{knows_all}
use Rattle.mp4_fragments.proofs.placing.index_of.Goals as goal

pub returns : goal.returns
unfolding placed_runs
returns c =
    let find = run_at c.args.trafs.now c.args.track in
    let empty = c.in_ok-index.ensures in
    rw c.build.ensures (c.in_ok-add_trafs.ensures.index find [] (knows_all c.args.trafs.now c.args.track)
    (Indexes-none find _ empty.counts empty.entries empty.before empty.total))
