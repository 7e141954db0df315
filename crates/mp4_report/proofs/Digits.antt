-- Numbers with zeros in front.
use Rattle.std.proofs.Common.{◌≡◌, ℕ, ◌-◌, ◌^◌, [], false, arith}
use Rattle.std.proofs.lemmas.Bool.Decides.{nat_tests}
use Rattle.std.proofs.lemmas.Fmt.{hex_byte}
use Rattle.std.proofs.lemmas.Grind.{common_steps}
use Rattle.std.specs.Fmt.{char_count, decimal, format_spec, padded_integral}
use Rattle.mp4_report.specs.CodecNames.{two_digits}

pub two_digits_shown : (n : ℕ)
    → padded_integral (format_spec 32 0 4 2 (2 ^ 64 - 1)) false [] (decimal n) ≡ two_digits n
unfolding padded_integral char_count
two_digits_shown n = grind (arith, nat_tests, common_steps)

pub ruleset shown_digits = (hex_byte, two_digits_shown)
