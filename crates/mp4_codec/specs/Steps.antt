-- Answers of several steps.
use Rattle.std.proofs.Common.{◌≡◌, Result, Ok, Err, refl}
use Rattle.mp4_codec.specs.Cause.{Cause, ◌>>=◌}

abbrev ok_of : {A : Type 0} → A → Result A Cause
ok_of x = Ok x

pub ok_is : {A : Type 0} (x y : A) → ok_of x ≡ ok_of y → x ≡ y
ok_is x y e = cc

-- where two steps answer a value, the first has one, and the second has it of that
pub both_steps : {A B : Type 0} (first : Result A Cause) (second : A → Result B Cause) (y : B)
    → (first >>= second) ≡ Ok y → (x : A) × (first ≡ Ok x) × (second x ≡ Ok y)
both_steps (Ok x) second y e = (x, refl, e)
both_steps (Err c) second y e = absurd cc
