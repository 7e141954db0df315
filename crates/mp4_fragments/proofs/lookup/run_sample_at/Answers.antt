use Rattle.std.proofs.Common.{◌≡◌, ◌∙◌, None, Some, ap, arith, refl, sym}
use Rattle.std.proofs.lemmas.Bool.{le-ltb, lt-ltb}
use Rattle.std.proofs.lemmas.Option.{same_Some}
use Rattle.mp4_fragments.specs.RunSamples.{PlacedRun}
use Rattle.mp4_fragments.specs.Index.{placed_at, run_at}
use Rattle.mp4_fragments.proofs.Cursors.{no_other, only_sample}
use Rattle.mp4_fragments.proofs.lookup.run_sample_at.Goals as goal

pub returns-then-j-eq0 : goal.returns-then-j-eq0
returns-then-j-eq0 c = λ p there.
    only_sample (run_at c.args.trafs.now c.args.track) c.args.entry.now c.in-Some.values c.begin_at.result p c.args.j
    there (rw (← c.only.ensures, c.in-Some.is) at (c.requires.only p there)) (omega (arith, c.if-j-eq0.true))
    (λ run defaults. rw (c.begin_at.ensures, ← c.at.ensures) (c.first_start.ensures run defaults))
    (rw c.begin_at.ensures refl) (rw c.begin_at.ensures refl) (rw c.begin_at.ensures refl)
    (rw c.begin_at.ensures refl)

pub returns-else-j-eq0 : goal.returns-else-j-eq0
returns-else-j-eq0 c = λ p there.
    no_other p c.in-Some.values c.args.j (rw (← c.only.ensures, c.in-Some.is) at (c.requires.only p there))
    (omega (arith, c.if-j-eq0.false))

pub returns-in_default-run_of : goal.returns-in_default-run_of
unfolding placed_at
returns-in_default-run_of c = λ p there.
    let none : placed_at (run_at c.args.trafs.now c.args.track) c.args.entry.now ≡ None =
    rw (← c.in_default-run_of.ensures) refl in
    let wrong : None ≡ Some p = sym none ∙ there in
    absurd cc

pub returns-then-j-run : goal.returns-then-j-run
unfolding placed_at
returns-then-j-run c = λ p there.
    let e = c.in-Some-run_of.ensures in
    let q : PlacedRun = record {
      at = c.args.entry.now.at;
      run = c.in-Some-run_of.run'.now;
      defaults = c.in-Some-run_of.defaults;
    } in
    let here : placed_at (run_at c.args.trafs.now c.args.track) c.args.entry.now ≡ Some q = rw (← e) refl in
    rw (same_Some p q (sym there ∙ here)) (rw (le-ltb c.args.j q.run.sample_count c.if-j-run.true) refl)

pub at_by_checkpoints-at-requires : goal.at_by_checkpoints-at-requires
unfolding placed_at
at_by_checkpoints-at-requires c =
    let e = c.in-Some-run_of.ensures in
    let p : PlacedRun = record {
      at = c.args.entry.now.at;
      run = c.in-Some-run_of.run'.now;
      defaults = c.in-Some-run_of.defaults;
    } in
    let there : placed_at (run_at c.args.trafs.now c.args.track) c.args.entry.now ≡ Some p = rw (← e) refl in
    rw (c.at-2.ensures, c.checks.ensures) (c.requires.checks p there)

pub returns : goal.returns
unfolding placed_at
returns c = λ p there.
    let e = c.in-Some-run_of.ensures in
    let q : PlacedRun = record {
      at = c.args.entry.now.at;
      run = c.in-Some-run_of.run'.now;
      defaults = c.in-Some-run_of.defaults;
    } in
    let here : placed_at (run_at c.args.trafs.now c.args.track) c.args.entry.now ≡ Some q = rw (← e) refl in
    rw (same_Some p q (sym there ∙ here)) (rw (lt-ltb c.args.j q.run.sample_count (omega (arith, c.if-j-run.false)))
    (ap Some (c.run_sample_run_start.ensures c.args.entry.now.at
    (rw (← c.at-2.ensures) c.at_by_checkpoints-at.ensures))))
