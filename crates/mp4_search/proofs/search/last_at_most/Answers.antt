use Rattle.std.proofs.Common.{◌-◌, length, arith}
use Rattle.mp4_search.proofs.Comparisons.{some_asked}
use Rattle.mp4_search.specs.Search.{at_most}
use Rattle.mp4_search.proofs.Digits.{digits_grow}
use Rattle.mp4_search.proofs.search.last_at_most.Goals as goal

pub returns-clause-few : goal.returns-clause-few
returns-clause-few c =
    let end = c.end.result in
    let halves = digits_grow (end - 0) (length c.args.numbers.now) (omega (arith, c.end.ensures.value)) in
    record {
      most = omega (arith, c.halve-low.ensures.few, c.new-readings.ensures, halves);
      some = λ some.
          let one = some_asked (at_most c.args.numbers.now c.args.key) 0 end (end - 0)
          (omega (arith, some, c.end.ensures.value)) (omega (arith, some, c.end.ensures.value)) in
          omega (arith, c.halve-low.ensures.counted, one);
    }
