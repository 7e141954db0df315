-- Values that are named by numbers.
use Rattle.std.specs.Prelude.{ℕ, List, [], ◌∷◌, Result, Ok, Err, ◌==◌, if◌then◌else◌}
use Rattle.mp4_codec.specs.Cause.{Cause, invalid_data}

-- the first of a list that has this number; any other number is refused
abbrev pub numbered : {A : Type 0} → (A → ℕ) → List A → ℕ → Result A Cause
numbered number [] n = Err invalid_data
numbered number (x ∷ xs) n = if n == number x then Ok x else numbered number xs n
