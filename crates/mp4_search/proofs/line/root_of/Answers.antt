use Rattle.std.proofs.Common.{◌≡◌, ◌+◌, ◌/◌, ◌-◌, arith}
use Rattle.std.proofs.lemmas.Nat.{pow_below}
use Rattle.mp4_search.specs.Guess.{root}
use Rattle.mp4_search.proofs.Digits.{digits_from_power}
use Rattle.mp4_search.proofs.line.root_of.Goals as goal

pub returns-clause-value : goal.returns-clause-value
unfolding root
returns-clause-value c =
    let log = c.ilog2 in
    let exponent = digits_from_power log.result c.args.number log.ensures.power_le log.ensures.next_power_gt in
    let less_one : log.result + 1 - 1 ≡ log.result = omega arith in
    rw exponent (rw less_one (omega (arith, pow_below (log.result / 2) 64 (omega (arith, log.ensures.bound)))))
