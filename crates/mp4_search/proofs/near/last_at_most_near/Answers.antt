use Rattle.std.proofs.Common.{arith}
use Rattle.mp4_search.proofs.Guesses.{guessed_at, guessed_in_few, guessed_nowhere}
use Rattle.mp4_search.proofs.near.last_at_most_near.Goals as goal

pub returns-then-end-le-FEW-clause-counted : goal.returns-then-end-le-FEW-clause-counted
returns-then-end-le-FEW-clause-counted c =
    let found = c.last_at_most.ensures in
    let same = guessed_in_few c.args.numbers.now c.args.key (omega (arith, c.end.ensures.value)) in
    record {
      searched = rw same found.counted;
      few = record { most = omega (arith, found.few.most); some = found.few.some };
    }

pub returns-in-None-clause-counted : goal.returns-in-None-clause-counted
returns-in-None-clause-counted c =
    let found = c.last_at_most_apart.ensures in
    let same = guessed_nowhere c.args.numbers.now c.args.key c.in-None.ensures.guess in
    record {
      searched = rw same found.counted;
      few = record { most = omega (arith, found.few.most); some = found.few.some };
    }

pub returns-in-Some-clause-counted : goal.returns-in-Some-clause-counted
returns-in-Some-clause-counted c =
    let found = c.last_at_most_from.ensures in
    let same = guessed_at c.args.numbers.now c.args.key c.in-Some.index c.in-Some.ensures.guess in
    record { searched = rw same found.counted; few = found.few }
