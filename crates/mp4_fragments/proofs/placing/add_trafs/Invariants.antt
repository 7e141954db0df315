use Rattle.std.proofs.Common.{take, fold}
use Rattle.std.specs.Prelude.{zip}
use Rattle.mp4_fragments.specs.Fragments.{with_traf}
use Rattle.mp4_fragments.specs.Index.{Walks, KnowsTrafs}
use Rattle.mp4_fragments.proofs.placing.add_trafs.Given as goal

abbrev pub invariant-loop-t : goal.invariant-loop-t
invariant-loop-t l = Walks (KnowsTrafs l.track l.trafs) (λ walk. fold (with_traf l.track) walk (take l.t
    (zip l.trafs l.base_data_offsets))) l.fn.first l.at l.fn.index l.index
