use Rattle.std.proofs.Common.{◌≡◌, Some, None, refl, sym, ◌∙◌, arith}
use Rattle.std.proofs.lemmas.Option.{same_Some}
use Rattle.mp4_fragments.specs.RunSamples.{PlacedRun}
use Rattle.mp4_fragments.specs.Index.{placed_at, run_at}
use Rattle.mp4_fragments.proofs.lookup.cursor_in.Goals as goal

pub returns-in_default-clause-none : goal.returns-in_default-clause-none
unfolding placed_at
returns-in_default-clause-none c = λ p there.
    let none : placed_at (run_at c.args.trafs.now c.args.track) c.args.entry.now ≡ None =
    rw (← c.in_default.ensures) refl in
    let wrong : None ≡ Some p = sym none ∙ there in
    absurd cc

pub returns-then-j-run-clause-none : goal.returns-then-j-run-clause-none
unfolding placed_at
returns-then-j-run-clause-none c = λ p there.
    let e = c.in-Some.ensures in
    let q : PlacedRun = record { at = c.args.entry.now.at; run = c.in-Some.run'.now; defaults = c.in-Some.defaults } in
    let here : placed_at (run_at c.args.trafs.now c.args.track) c.args.entry.now ≡ Some q = rw (← e) refl in
    rw (same_Some p q (sym there ∙ here)) c.if-j-run.true

pub at_by_checkpoints-requires : goal.at_by_checkpoints-requires
unfolding placed_at
at_by_checkpoints-requires c =
    let e = c.in-Some.ensures in
    let p : PlacedRun = record { at = c.args.entry.now.at; run = c.in-Some.run'.now; defaults = c.in-Some.defaults } in
    let there : placed_at (run_at c.args.trafs.now c.args.track) c.args.entry.now ≡ Some p = rw (← e) refl in
    rw (c.at.ensures, c.checks.ensures) (c.requires.checks p there)

pub returns-clause-some : goal.returns-clause-some
unfolding placed_at
returns-clause-some c =
    let e = c.in-Some.ensures in
    let q : PlacedRun = record { at = c.args.entry.now.at; run = c.in-Some.run'.now; defaults = c.in-Some.defaults } in
    let here : placed_at (run_at c.args.trafs.now c.args.track) c.args.entry.now ≡ Some q = rw (← e) refl in (
      refl,
      refl,
      refl,
      omega (arith, c.if-j-run.false),
      omega (arith, c.if-j-run.false),
      λ p there. rw (same_Some p q (sym there ∙ here)) (record {
        run = refl;
        defaults = refl;
        begins = rw (← c.at.ensures) c.at_by_checkpoints.ensures;
      }),
    )
