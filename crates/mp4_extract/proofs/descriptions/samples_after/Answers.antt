use Rattle.std.proofs.Common.{◌+◌, ◌∙◌, ℕ, drop, sym, ap, List}
use Rattle.std.proofs.lemmas.List.{drop_more}
use Rattle.mp4_moof.specs.declared.trun.TrunBox.{TrunBox}
use Rattle.mp4_extract.specs.Descriptions.{samples_after}
use Rattle.mp4_extract.proofs.descriptions.samples_after.Goals as goal

pub loop-i-preserved : goal.loop-i-preserved
loop-i-preserved c =
    let truns = c.args.truns.now in
    let i = c.loop-i.i in
    sym (ap (λ (rs : List TrunBox). samples_after c.loop-i.count rs)
    (drop_more truns i c.index-truns-i.result c.loop-i-test.true)
    ∙ ap (λ (n : ℕ). samples_after n (drop (i + 1) truns)) (sym c.saturating_add-count.ensures))
    ∙ c.loop-i.invariant
