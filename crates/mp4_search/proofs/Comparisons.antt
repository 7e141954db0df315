-- A search by halves, a step at a time.
use Rattle.std.proofs.Common.{◌≡◌, ℕ, zero, suc, ◌+◌, ◌-◌, ◌/◌, ◌<◌, ◌≤◌, Bool, true, false, arith}
use Rattle.std.proofs.lemmas.Bool.{lt-ltb, le-ltb}
use Rattle.mp4_search.specs.Partition.{asked_between, asked_in}

-- after so many indexes that were asked for, what is left between two places makes the others of all, in steps that are
-- enough
pub record AreLeft (has : ℕ → Bool) (low high asked all : ℕ) : Type 0 where
  pub steps : ℕ
  pub enough : high - low ≤ steps
  pub left : asked + asked_between steps has low high ≡ all

-- what is left between two places, after so many that were asked for
pub these_left : (has : ℕ → Bool) (low high asked : ℕ)
    → AreLeft has low high asked (asked + asked_between (high - low) has low high)
these_left has low high asked = record { steps = high - low; enough = omega arith; left = omega arith }

-- all of the first n are left
pub all_left : (has : ℕ → Bool) (n asked : ℕ) → AreLeft has 0 n asked (asked + asked_in has n)
unfolding asked_in
all_left has n asked = record { steps = n; enough = omega arith; left = omega arith }

-- one more was asked for: what is left is after the middle
pub after : (has : ℕ → Bool) (low high middle asked all : ℕ) → AreLeft has low high asked all → low < high
    → middle ≡ low + (high - low) / 2 → has middle ≡ true → AreLeft has (middle + 1) high (asked + 1) all
unfolding asked_between
after has low high middle asked all a h half one = rw half (step a.steps a.enough a.left)
  where
    here : has (low + (high - low) / 2) ≡ true
    here = rw half at one

    step : (n : ℕ) → high - low ≤ n → asked + asked_between n has low high ≡ all
        → AreLeft has (low + (high - low) / 2 + 1) high (asked + 1) all
    step zero enough left = absurd (omega (arith, h, enough))
    step (suc n) enough left = record {
      steps = n;
      enough = omega (arith, enough);
      left = let e = rw (lt-ltb low high h, here) at left in omega (arith, e);
    }

-- one more was asked for: what is left is before the middle
pub before : (has : ℕ → Bool) (low high middle asked all : ℕ) → AreLeft has low high asked all → low < high
    → middle ≡ low + (high - low) / 2 → has middle ≡ false → AreLeft has low middle (asked + 1) all
unfolding asked_between
before has low high middle asked all a h half none = rw half (step a.steps a.enough a.left)
  where
    here : has (low + (high - low) / 2) ≡ false
    here = rw half at none

    step : (n : ℕ) → high - low ≤ n → asked + asked_between n has low high ≡ all
        → AreLeft has low (low + (high - low) / 2) (asked + 1) all
    step zero enough left = absurd (omega (arith, h, enough))
    step (suc n) enough left = record {
      steps = n;
      enough = omega (arith, enough);
      left = let e = rw (lt-ltb low high h, here) at left in omega (arith, e);
    }

-- nothing is left
pub none_left : (has : ℕ → Bool) (low high asked all : ℕ) → AreLeft has low high asked all → high ≤ low → asked ≡ all
unfolding asked_between
none_left has low high asked all a h = step a.steps a.left
  where
    step : (n : ℕ) → asked + asked_between n has low high ≡ all → asked ≡ all
    step zero left = omega (arith, left)
    step (suc n) left = let e = rw (le-ltb low high h) at left in omega (arith, e)

-- where there are some, one is asked for
pub some_asked : (has : ℕ → Bool) (low high n : ℕ) → low < high → 1 ≤ n → 1 ≤ asked_between n has low high
unfolding asked_between
some_asked has low high zero h one = absurd (omega (arith, one))
some_asked has low high (suc n) h one = rw (lt-ltb low high h) (omega arith)
