use Rattle.std.proofs.Common.{arith, refl}
use Rattle.mp4_remux.proofs.Referring.{all_same}
use Rattle.mp4_remux.proofs.reference.are_same.Goals as goal

pub returns : goal.returns
returns c = (
  (λ is. all_same c.args.one.now c.args.other.now c.loop-i.invariant.many
      (λ d e j lt. c.loop-i.invariant.same d e j (omega (arith, lt, c.loop-i-test.false, c.loop-i.invariant.upto)))),
  (λ same. refl),
)
