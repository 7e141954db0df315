-- Running sums of a list: for each member, how much the members before it have together.
use Rattle.std.specs.Prelude.{◌≡◌, ℕ, ◌-◌, ◌^◌, ◌<◌, List, length, take, slice_index, min}
use Rattle.std.specs.List.{sum_by}

-- for each member the sum over those before it, as it is kept
pub record RunningSums {X : Type 0} (kept : ℕ → ℕ) (f : X → ℕ) (xs : List X) (sums : List ℕ) : Type 0 where
  pub count : length sums ≡ length xs
  pub each : (i : ℕ) → i < length xs → slice_index sums i ≡ kept (sum_by f (take i xs))

-- the sums themselves
abbrev pub SumsBefore : {X : Type 0} → (X → ℕ) → List X → List ℕ → Type 0
SumsBefore f xs sums = RunningSums (λ n. n) f xs sums

-- the sums as far as 32 bits go, and the largest number of 32 bits past that
abbrev pub CountsBefore : {X : Type 0} → (X → ℕ) → List X → List ℕ → Type 0
CountsBefore f xs counts = RunningSums (λ n. min (2 ^ 32 - 1) n) f xs counts

-- the sums as far as 64 bits go, and the largest number of 64 bits past that
abbrev pub SumsBefore64 : {X : Type 0} → (X → ℕ) → List X → List ℕ → Type 0
SumsBefore64 f xs sums = RunningSums (λ n. min (2 ^ 64 - 1) n) f xs sums
