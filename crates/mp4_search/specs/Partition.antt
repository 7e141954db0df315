-- Search among indexes of which the first have something that all others lack.
use Rattle.std.specs.Prelude.{◌≡◌, ℕ, zero, suc, ◌+◌, ◌-◌, ◌/◌, ◌<◌, ◌≤◌, nat_lt, Bool, true, false, Option}
use Rattle.std.specs.Prelude.{MatchOption}
use Rattle.std.specs.Prelude.{if◌then◌else◌}

-- of the first n indexes, those before one that has it have it too
pub record IsParted (has : ℕ → Bool) (n : ℕ) : Type 0 where
  pub earlier : (i j : ℕ) → i ≤ j → j < n → has j ≡ true → has i ≡ true

-- of the first n indexes, the first c have it and the others don't
pub record ArePartedAt (has : ℕ → Bool) (n c : ℕ) : Type 0 where
  pub within : c ≤ n
  pub first : (i : ℕ) → i < c → has i ≡ true
  pub others : (i : ℕ) → c ≤ i → i < n → has i ≡ false

-- How many indexes a search by halves asks for, of those from `low` up to but without `high`: the one in their middle,
-- and then those after it, where it has it, else those before it. The steps are as many as there are indexes, which is
-- more than enough.
unfoldable pub asked_between : ℕ → (ℕ → Bool) → ℕ → ℕ → ℕ
asked_between zero has low high = 0
asked_between (suc n) has low high =
    if nat_lt low high then (
    let middle = low + (high - low) / 2 in
    1 + (if has middle then asked_between n has (middle + 1) high else asked_between n has low middle))
    else 0

-- how many of the first n such a search asks for
unfoldable pub asked_in : (ℕ → Bool) → ℕ → ℕ
asked_in has n = asked_between n has 0 n

-- of the numbers below an end, the last that has something
pub record IsLastWith (has : ℕ → Bool) (end n : ℕ) : Type 0 where
  pub within : n < end
  pub own : has n ≡ true
  pub later : (j : ℕ) → n < j → j < end → has j ≡ false

-- that number, or None where no number has it
abbrev pub AnswersLast : (ℕ → Bool) → ℕ → Option ℕ → Type 0
AnswersLast has end answer =
    MatchOption answer ((j : ℕ) → j < end → has j ≡ false) (IsLastWith has end)
