use Rattle.std.proofs.Common.{◌∙◌, refl, arith}
use Rattle.std.proofs.lemmas.Bool.{lt-ltb}
use Rattle.mp4_lookup.proofs.Steps.{sync_gap}
use Rattle.mp4_lookup.proofs.timing.SyncGap.up_to.Goals as goal
use Rattle.mp4_lookup.proofs.timing.SyncGap.up_to.Goals.{in-Some, in-None}

pub returns-clause-gap : goal.returns-clause-gap
returns-clause-gap c =
    sync_gap c.args.numbers.now c.args.index c.args.from _ c.requires.rises c.requires.within c.requires.earlier
    (omega arith) refl
    (λ h. elim c.match-get.branch [
      | in-Some w ↦ w.end-is ∙ w.from-end.ensures ∙ w.in-Some.ensures.lookup.3.1 0
      | in-None w ↦ absurd (let wrong = w.in-None.ensures.lookup.0 ∙ lt-ltb _ _ h in cc)
    ])
    (λ h. elim c.match-get.branch [
      | in-Some w ↦ absurd (omega (arith, h, w.in-Some.ensures.lookup.3.0))
      | in-None w ↦ w.end-is
    ])
