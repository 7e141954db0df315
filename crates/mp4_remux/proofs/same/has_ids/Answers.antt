use Rattle.std.proofs.Common.{arith, refl}
use Rattle.mp4_remux.proofs.Sameness.{as_many_ids, have_ids, same_id}
use Rattle.mp4_remux.proofs.same.has_ids.Goals as goal

pub returns-then-traks-ids : goal.returns-then-traks-ids
returns-then-traks-ids c = (
  λ is. absurd cc,
  λ same. absurd (c.if-traks-ids.true (as_many_ids _ _ _ c.as_slice-traks.ensures same)),
)

pub returns-then-traks-i : goal.returns-then-traks-i
returns-then-traks-i c = (
  λ is. absurd cc,
  λ same. absurd (c.if-traks-i.true (same_id _ _ _ c.loop-i.i _ _ c.as_slice-traks.ensures same c.loop-i-test.true)),
)

pub returns : goal.returns
returns c = (
  λ is.
      have_ids _ _ c.loop-i.i c.as_slice-traks.ensures c.loop-i.invariant.many
      (omega (arith, c.loop-i-test.false, c.loop-i.invariant.upto)) c.loop-i.invariant.same,
  λ _. refl,
)
