use Rattle.std.proofs.Common.{◌∙◌, sym}
use Rattle.mp4_mux.specs.Columns.{values_of}
use Rattle.mp4_mux.proofs.SampleColumnLaws.{length-infos}
use Rattle.mp4_mux.proofs.sample_infos.SampleInfos.len.Goals as goal

pub returns : goal.returns
returns c =
    let w = c.self.inside in
    rw (← c.self.view_is)
    (c.len.ensures
    ∙ sym (length-infos (values_of w.sizes) (values_of w.durations) (values_of w.rendering_offsets) (values_of w.syncs)
    c.self.invariant))
