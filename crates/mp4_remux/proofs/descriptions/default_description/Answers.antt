use Rattle.std.proofs.Common.{◌==◌, ◌∙◌, eq-eqb}
use Rattle.mp4_moof.specs.declared.trex.TrexBox.{TrexBox}
use Rattle.mp4_remux.proofs.DescriptionLaws.{one_counts}
use Rattle.mp4_remux.proofs.descriptions.default_description.Goals as goal

pub loop-trex-preserved : goal.loop-trex-preserved
loop-trex-preserved c =
    one_counts (λ (x : TrexBox). x.default_sample_description_index) (λ (x : TrexBox). x.track_id == c.args.track_id)
    c.as_slice-trex-items.result.now c.loop-trex.trex-index _ c.loop-trex-test.true c.loop-trex.description
    (eq-eqb _ _ c.if-trex-track_id.false)
    ∙ c.loop-trex.invariant
