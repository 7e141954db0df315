use Rattle.std.proofs.Common.{◌+◌, ◌∙◌, ℕ, drop, sym, ap, List}
use Rattle.std.proofs.lemmas.List.{drop_more}
use Rattle.mp4_moof.specs.declared.trex.TrexBox.{TrexBox}
use Rattle.mp4_extract.specs.Descriptions.{default_description}
use Rattle.mp4_extract.proofs.descriptions.default_description.Goals as goal

pub loop-i-preserved : goal.loop-i-preserved
loop-i-preserved c =
    let trexs = c.args.trexs.now in
    let i = c.loop-i.i in
    sym (ap (λ (xs : List TrexBox). default_description c.loop-i.description xs c.args.track_id)
    (drop_more trexs i _ c.loop-i-test.true)
    ∙ ap (λ (n : ℕ). default_description n (drop (i + 1) trexs) c.args.track_id)
    (sym c.description_with-description.ensures))
    ∙ c.loop-i.invariant
