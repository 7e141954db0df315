use Rattle.std.proofs.Common.{◌≡◌, ◌<◌, slice_index, arith, ⊎_elim}
use Rattle.std.proofs.Math.Nat.{le-max_left, le-max_right}
use Rattle.std.proofs.lemmas.Bool.{cases_lt}
use Rattle.std.proofs.lemmas.List.{get_or_default}
use Rattle.mp4_search.proofs.bit_set.largest_of.Goals as goal

pub loop-number-preserved : goal.loop-number-preserved
loop-number-preserved c =
    let numbers = c.args.numbers.now in
    let i = c.loop-number.number-index in
    let largest = c.loop-number.largest in
    let here = slice_index numbers i in
    λ j d h. rw c.max-largest.ensures
    (⊎_elim
    (λ (earlier : j < i). omega (arith, c.loop-number.invariant j d earlier, le-max_left largest here))
    (λ at. let e : j ≡ i = omega (arith, at, h) in rw (e, get_or_default numbers i d 0 c.loop-number-test.true)
    (le-max_right largest here))
    (cases_lt j i))
