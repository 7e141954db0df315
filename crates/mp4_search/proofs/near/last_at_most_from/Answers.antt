use Rattle.std.proofs.Common.{◌-◌, length, arith}
use Rattle.mp4_search.proofs.Digits.{digits_grow}
use Rattle.mp4_search.proofs.near.last_at_most_from.Goals as goal

-- one look at least and four at most, and then no more than all numbers would take by halves
pub returns-in-Some-clause-few : goal.returns-in-Some-clause-few
returns-in-Some-clause-few c =
    let near = c.looked_near-near.result in
    let halves = digits_grow (near.high - near.low) (length c.args.numbers.now)
    (omega (arith, c.looked_near-near.ensures.between.inside)) in
    record {
      most = omega (arith, c.halve-end.ensures.few, c.looked_near-near.ensures.few, halves);
      some = λ _. omega (arith, c.halve-end.ensures.counted, c.looked_near-near.ensures.some);
    }

pub returns-in-None-clause-few : goal.returns-in-None-clause-few
returns-in-None-clause-few c =
    let near = c.looked_near-near.result in
    let halves = digits_grow (near.high - near.low) (length c.args.numbers.now)
    (omega (arith, c.looked_near-near.ensures.between.inside)) in
    record {
      most = omega (arith, c.halve-end.ensures.few, c.looked_near-near.ensures.few, halves);
      some = λ _. omega (arith, c.halve-end.ensures.counted, c.looked_near-near.ensures.some);
    }
