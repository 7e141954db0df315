use Rattle.std.proofs.Common.{take, fold}
use Rattle.mp4_fragments.specs.Fragments.{with_run}
use Rattle.mp4_fragments.specs.Index.{Walks, KnowsRuns}
use Rattle.mp4_fragments.proofs.placing.add_runs.Given as goal

abbrev pub invariant-loop-i : goal.invariant-loop-i
invariant-loop-i l = Walks (KnowsRuns l.t l.runs l.defaults) (λ walk. fold (with_run l.base_data_offset l.defaults) walk
    (take l.i l.runs)) l.fn.first l.at l.fn.index l.index
