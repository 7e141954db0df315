use Rattle.mp4_mux.specs.Columns.{values_of}
use Rattle.mp4_mux.proofs.SampleColumnLaws.{sizes-infos}
use Rattle.mp4_mux.proofs.sample_infos.SampleInfos.sizes.Goals as goal

pub returns : goal.returns
returns c =
    let w = c.self.inside in
    rw (← c.self.view_is)
    (sizes-infos (values_of w.sizes) (values_of w.durations) (values_of w.rendering_offsets) (values_of w.syncs)
    c.self.invariant)
