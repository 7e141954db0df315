use Rattle.mp4_mux.specs.Columns.{values_of}
use Rattle.mp4_mux.proofs.SampleColumnLaws.{durations-infos}
use Rattle.mp4_mux.proofs.sample_infos.SampleInfos.durations.Goals as goal

pub returns : goal.returns
returns c =
    let w = c.self.inside in
    rw (← c.self.view_is)
    (durations-infos (values_of w.sizes) (values_of w.durations) (values_of w.rendering_offsets) (values_of w.syncs)
    c.self.invariant)
