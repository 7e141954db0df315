use Rattle.std.proofs.Common.{◌∙◌, sym, arith, get_or}
use Rattle.mp4_script.proofs.Decimals.{value_more, are_digits_more, no_digit, digit_small, ten_times}
use Rattle.mp4_script.proofs.commands.value_of.Goals as goal

pub returns-then-not-is_ascii_digit-clause-none : goal.returns-then-not-is_ascii_digit-clause-none
returns-then-not-is_ascii_digit-clause-none c =
    no_digit c.args.digits.now c.loop-digit.digit-index c.loop-digit-test.true
    (sym c.is_ascii_digit.ensures.value ∙ c.if-not-is_ascii_digit.true)

pub loop-digit-preserved : goal.loop-digit-preserved
loop-digit-preserved c =
    let digit = sym c.is_ascii_digit.ensures.value ∙ c.if-not-is_ascii_digit.false in
    let value = value_more c.args.digits.now c.loop-digit.digit-index c.loop-digit-test.true in
    record {
      value = omega (arith, value, c.loop-digit.invariant.value, c.from.ensures);
      digits = are_digits_more c.args.digits.now c.loop-digit.digit-index c.loop-digit-test.true
          c.loop-digit.invariant.digits digit;
      fits = omega (
        arith,
        ten_times c.loop-digit.digit-index,
        c.loop-digit.invariant.fits,
        digit_small (get_or c.args.digits.now c.loop-digit.digit-index 0) digit,
        c.from.ensures,
      );
    }
