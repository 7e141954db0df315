use Rattle.std.proofs.Common.{refl, arith}
use Rattle.std.proofs.lemmas.Bool.{lt-ltb, le-ltb}
use Rattle.mp4_fragments.specs.Index.{run_at}
use Rattle.mp4_fragments.proofs.Decoding.{placed_is, placed_nowhere}
use Rattle.mp4_fragments.proofs.times.begin_of.Goals as goal

pub returns-in_default : goal.returns-in_default
returns-in_default c = λ p there.
    absurd (placed_nowhere (run_at c.args.trafs.now c.args.track) c.args.entry.now p c.in_default.ensures there)

pub returns-then-run-eq0 : goal.returns-then-run-eq0
returns-then-run-eq0 c = λ p there.
    let is = placed_is (run_at c.args.trafs.now c.args.track) c.args.entry.now c.in-Some.run'.now c.in-Some.field-0-1 p
    c.in-Some.ensures there in
    rw (is, le-ltb 0 c.in-Some.run'.now.sample_count (omega (arith, c.if-run-eq0.true))) refl

pub returns : goal.returns
returns c = λ p there.
    let is = placed_is (run_at c.args.trafs.now c.args.track) c.args.entry.now c.in-Some.run'.now c.in-Some.field-0-1 p
    c.in-Some.ensures there in
    rw (is, lt-ltb 0 c.in-Some.run'.now.sample_count (omega (arith, c.if-run-eq0.false)), c.at.ensures) refl
