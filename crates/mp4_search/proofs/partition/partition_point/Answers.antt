use Rattle.std.proofs.Common.{◌≡◌, ℕ, Bool, ◌+◌, ◌-◌, ◌/◌, ◌≤◌, ◌<◌, true, false, sym, ◌∙◌, arith}
use Rattle.std.proofs.lemmas.Bool.{false_from_ne_true, true≢false}
use Rattle.mp4_search.specs.Partition.{IsParted}
use Rattle.mp4_search.proofs.Comparisons.{all_left, after, before, none_left}
use Rattle.mp4_search.proofs.Digits.{digits_grow, digits_half, digits_64}
use Rattle.mp4_search.proofs.partition.partition_point.Goals as goal

-- before an index that has it each has it
before_one : (has : ℕ → Bool) (n i j : ℕ) (answer : Bool) → IsParted has n → i ≤ j → j < n → answer ≡ has j
    → answer ≡ true → has i ≡ true
before_one has n i j answer parted h k e one = parted.earlier i j h k (sym e ∙ one)

-- after an index that lacks it none has it
after_lack : (has : ℕ → Bool) (n i j : ℕ) (answer : Bool) → IsParted has n → i ≤ j → j < n → answer ≡ has i
    → answer ≡ false → has j ≡ false
after_lack has n i j answer parted h k e lacks =
    false_from_ne_true (has j) (λ one. true≢false (sym (parted.earlier i j h k one) ∙ sym e ∙ lacks))

-- what an answer is, that is what it says of its index
told : (answer own value : Bool) → answer ≡ own → answer ≡ value → own ≡ value
told answer own value same is = sym same ∙ is

pub loop-low-init : goal.loop-low-init
loop-low-init g c = record {
  ordered = omega arith;
  within = omega arith;
  first = λ i h. absurd (omega (arith, h));
  others = λ i h k. absurd (omega (arith, h, k));
  paid = omega (arith, digits_grow (c.args.n - 0) c.args.n (omega arith));
  left = all_left (g.P.Parted.has c.args.values.now) c.args.n c.args.readings.now;
}

pub overflow_add-middle : goal.overflow_add-middle
overflow_add-middle g c = omega (arith, c.loop-low.invariant.within, c.requires.small)

pub add_one-requires : goal.add_one-requires
add_one-requires g c = omega (
  arith,
  c.loop-low.invariant.paid,
  c.requires.room,
  digits_64 c.args.n (omega (arith, c.requires.small)),
)

pub has-requires : goal.has-requires
has-requires g c = omega (arith, c.loop-low.invariant.within, c.requires.within)

pub loop-low-preserved-then-has : goal.loop-low-preserved-then-has
loop-low-preserved-then-has g c =
    let l = c.loop-low in
    let middle = (l.low + l.high) / 2 in
    let more : c.add_one.new.self ≡ l.readings + 1 = omega (arith, c.add_one.ensures) in
    let left = digits_half (l.high - (middle + 1)) (l.high - l.low) (omega arith) (omega arith) in
    record {
      ordered = omega arith;
      within = l.invariant.within;
      first = λ i h. before_one (g.P.Parted.has c.args.values.now) c.args.n i middle c.has.result c.requires.parted
          (omega arith) (omega (arith, l.invariant.within)) c.has.ensures c.if-has.true;
      others = l.invariant.others;
      paid = omega (arith, left, l.invariant.paid, c.add_one.ensures);
      left = rw more (after (g.P.Parted.has c.args.values.now) l.low l.high middle l.readings _
          l.invariant.left (omega arith) (omega arith) (told _ _ _ c.has.ensures c.if-has.true));
    }

pub loop-low-preserved : goal.loop-low-preserved
loop-low-preserved g c =
    let l = c.loop-low in
    let middle = (l.low + l.high) / 2 in
    let more : c.add_one.new.self ≡ l.readings + 1 = omega (arith, c.add_one.ensures) in
    let left = digits_half (middle - l.low) (l.high - l.low) (omega arith) (omega arith) in
    record {
      ordered = omega arith;
      within = omega (arith, l.invariant.within);
      first = l.invariant.first;
      others = λ i h k. after_lack (g.P.Parted.has c.args.values.now) c.args.n middle i c.has.result
          c.requires.parted (omega (arith, h)) k c.has.ensures c.if-has.false;
      paid = omega (arith, left, l.invariant.paid, c.add_one.ensures);
      left = rw more (before (g.P.Parted.has c.args.values.now) l.low l.high middle l.readings _
          l.invariant.left (omega arith) (omega arith) (told _ _ _ c.has.ensures c.if-has.false));
    }

pub returns-clause-point : goal.returns-clause-point
returns-clause-point g c =
    let l = c.loop-low in
    record {
      within = omega (arith, l.invariant.ordered, l.invariant.within);
      first = l.invariant.first;
      others = λ i h k. l.invariant.others i (omega (arith, h)) k;
    }

pub returns-clause-few : goal.returns-clause-few
returns-clause-few g c = omega (arith, c.loop-low.invariant.paid)

pub returns-clause-counted : goal.returns-clause-counted
returns-clause-counted g c =
    let l = c.loop-low in
    none_left (g.P.Parted.has c.args.values.now) l.low l.high l.readings _ l.invariant.left (omega arith)
