-- Binary digits.
use Rattle.std.specs.Prelude.{ℕ, length}
use Rattle.std.specs.Int.Digits.{digits_of}

-- how many binary digits n has; 0 has none
unfoldable pub digits : ℕ → ℕ
digits n = length (digits_of 2 n)
