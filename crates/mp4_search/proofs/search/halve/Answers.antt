use Rattle.std.proofs.Common.{◌≡◌, ◌+◌, ◌-◌, ◌/◌, arith}
use Rattle.std.proofs.lemmas.Bool.{le-leb, lt-leb}
use Rattle.mp4_search.specs.Search.{at_most}
use Rattle.mp4_search.proofs.Comparisons.{these_left, after, before, none_left}
use Rattle.mp4_search.proofs.Digits.{digits_half, digits_64}
use Rattle.mp4_search.proofs.search.halve.Goals as goal

pub overflow_add-middle : goal.overflow_add-middle
overflow_add-middle c =
    let between = c.loop-low.invariant.between in
    omega (arith, between.ordered, between.inside, c.requires.small)

pub read-number-requires-clause-room : goal.read-number-requires-clause-room
read-number-requires-clause-room c =
    let between = c.args.between in
    omega (
      arith,
      c.loop-low.invariant.paid,
      c.requires.room,
      digits_64 (between.high - between.low) (omega (arith, c.requires.between.inside, c.requires.small)),
    )

pub loop-low-preserved-then-number-key : goal.loop-low-preserved-then-number-key
loop-low-preserved-then-number-key c =
    let l = c.loop-low in
    let middle = (l.low + l.high) / 2 in
    let one_before : middle + 1 - 1 ≡ middle = omega arith in
    let paid = digits_half (l.high - (middle + 1)) (l.high - l.low) (omega arith) (omega arith) in
    record {
      between = record {
        ordered = omega arith;
        inside = l.invariant.between.inside;
        before = (omega arith, rw one_before c.read-number.ensures.number, omega arith);
        above = l.invariant.between.above;
      };
      paid = omega (arith, paid, l.invariant.paid);
      left = rw c.read-number.ensures.counted (after (at_most c.args.numbers.now c.args.key) l.low l.high middle
          l.readings _ l.invariant.left (omega arith) (omega arith)
          (le-leb _ c.args.key (omega (arith, c.read-number.ensures.number))));
    }

pub loop-low-preserved : goal.loop-low-preserved
loop-low-preserved c =
    let l = c.loop-low in
    let middle = (l.low + l.high) / 2 in
    let paid = digits_half (middle - l.low) (l.high - l.low) (omega arith) (omega arith) in
    record {
      between = record {
        ordered = omega arith;
        inside = omega (arith, l.invariant.between.inside);
        before = l.invariant.between.before;
        above = λ j h k. omega (arith, c.read-number.ensures.number, c.requires.rises middle j 0 h k);
      };
      paid = omega (arith, paid, l.invariant.paid);
      left = rw c.read-number.ensures.counted (before (at_most c.args.numbers.now c.args.key) l.low l.high middle
          l.readings _ l.invariant.left (omega arith) (omega arith)
          (lt-leb _ c.args.key (omega (arith, c.read-number.ensures.number))));
    }

pub loop-low-init : goal.loop-low-init
loop-low-init c =
    let between = c.args.between in
    record {
      between = c.requires.between;
      paid = omega arith;
      left = these_left (at_most c.args.numbers.now c.args.key) between.low between.high c.args.readings.now;
    }

pub returns-clause-counted : goal.returns-clause-counted
returns-clause-counted c =
    let l = c.loop-low in
    none_left (at_most c.args.numbers.now c.args.key) l.low l.high l.readings _ l.invariant.left (omega arith)
