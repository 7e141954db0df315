use Rattle.std.proofs.lemmas.List.{take_all}
use Rattle.mp4_lookup.proofs.Syncs.{larger_more, no_number}
use Rattle.mp4_lookup.proofs.seek.largest_upto.Goals as goal

pub loop-number-init : goal.loop-number-init
loop-number-init c = no_number c.args.k

pub loop-number-preserved : goal.loop-number-preserved
loop-number-preserved c =
    rw c.larger_upto-largest.ensures (larger_more c.args.numbers.now c.args.k c.loop-number.number-index 0
    c.loop-number.largest c.loop-number-test.true c.loop-number.invariant)

pub returns : goal.returns
returns c =
    rw (take_all c.loop-number.number-index c.args.numbers.now c.loop-number-test.false) at c.loop-number.invariant
