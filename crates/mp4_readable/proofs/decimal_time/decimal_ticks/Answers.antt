use Rattle.std.proofs.Common.{◌≡◌, ◌≤◌, ℕ, ◌+◌, ◌-◌, ◌*◌, ◌/◌, length, ap, ap₂, sym, ◌∙◌, arith, rules, drop}
use Rattle.mp4_readable.specs.DecimalTime.{decimal_ticks, digit_of}
use Rattle.mp4_readable.proofs.Decimals.{from_place, none, product_small}
use Rattle.mp4_readable.proofs.decimal_time.decimal_ticks.Goals as goal

pub loop-i-init : goal.loop-i-init
loop-i-init c = record {
  counted = none c.args.digits.now c.args.timescale;
  few = omega arith;
}

pub overflow_add-ticks : goal.overflow_add-ticks
overflow_add-ticks c =
    omega (
      arith,
      product_small c.digit_of-digit.result c.from.result c.digit_of-digit.ensures.small,
      c.from.ensures,
      c.loop-i.invariant.few,
      c.ranges.timescale.fits,
    )

pub loop-i-preserved : goal.loop-i-preserved
loop-i-preserved c = record {
  counted = ap₂ (λ digit t. (digit * t + c.loop-i.ticks) / 10) c.digit_of-digit.ensures.value c.from.ensures
      ∙ from_place c.args.digits.now c.loop-i.i c.args.timescale c.loop-i.ticks c.loop-i-test.true
      c.loop-i.invariant.counted;
  few = omega (
    arith,
    product_small c.digit_of-digit.result c.from.result c.digit_of-digit.ensures.small,
    c.from.ensures,
    c.loop-i.invariant.few,
  );
}

pub returns : goal.returns
returns c =
    let all : length c.args.digits.now - c.loop-i.i ≡ 0 = omega (arith, c.loop-i-test.false, c.loop-i.auto.i-end) in
    c.loop-i.invariant.counted ∙ ap (λ n. decimal_ticks (drop n c.args.digits.now) c.args.timescale) all
