-- Search in numbers that rise.
use Rattle.std.specs.Prelude.{◌≡◌, ℕ, ◌+◌, ◌-◌, ◌<◌, ◌≤◌, nat_lt, nat_le, Bool, List, length, slice_index}
use Rattle.std.specs.Prelude.{if◌then◌else◌, Option, Some, None, MatchOption}
use Rattle.mp4_search.specs.Digits.{digits}
use Rattle.mp4_search.specs.Guess.{expected_in}
use Rattle.mp4_search.specs.Partition.{asked_between}

-- the number at i is the last that is at most the key
pub record IsLastAtMost (numbers : List ℕ) (key i : ℕ) : Type 0 where
  pub within : i < length numbers
  pub small : slice_index numbers i ≤ key
  pub later : (j : ℕ) → i < j → j < length numbers → key < slice_index numbers j

-- What a search has found out while it goes on: the last that is at most the key, if there is one, is before `high`
-- and not before `low - 1`, where the number is `last`; that is None where `low` is 0.
pub record IsBetween (numbers : List ℕ) (key low high : ℕ) (last : Option ℕ) : Type 0 where
  pub ordered : low ≤ high
  pub inside : high ≤ length numbers
  pub before : MatchOption last (low ≡ 0) (λ n. (1 ≤ low) × (n ≡ slice_index numbers (low - 1)) × (n ≤ key))
  pub above : (j : ℕ) → high ≤ j → j < length numbers → key < slice_index numbers j

-- so many comparisons in a table of n entries: at most as many as n has binary digits, and at least one if it has an
-- entry
pub record IsFew (comparisons n : ℕ) : Type 0 where
  pub most : comparisons ≤ digits n
  pub some : 0 < n → 1 ≤ comparisons

-- the number at an index is at most the key
abbrev pub at_most : List ℕ → ℕ → ℕ → Bool
at_most numbers key i = nat_le (slice_index numbers i) key

-- how many numbers a search by halves compares with the key, of those from `low` up to but without `high`
abbrev pub comparisons_between : ℕ → List ℕ → ℕ → ℕ → ℕ → ℕ
comparisons_between steps numbers key low high = asked_between steps (at_most numbers key) low high

-- how many numbers such a search in all of them compares with the key
unfoldable pub comparisons_in : List ℕ → ℕ → ℕ
comparisons_in numbers key = comparisons_between (length numbers) numbers key 0 (length numbers)

-- What is left of a search after so many comparisons: the numbers from `low` up to but without `high`.
pub record Left : Type 0 where
  pub low : ℕ
  pub high : ℕ
  pub compared : ℕ

abbrev pub left_of : ℕ → ℕ → ℕ → Left
left_of low high compared = record { low = low; high = high; compared = compared }

-- all of them, before the first comparison
abbrev pub all_of : List ℕ → Left
all_of numbers = left_of 0 (length numbers) 0

-- After a look at the number at i: what is left is after it, where it is at most the key, else before it. A number
-- that isn't among those that are left is not looked at.
unfoldable pub after_look : List ℕ → ℕ → ℕ → Left → Left
after_look numbers key i left =
    if nat_lt i left.low then left else
    if nat_le left.high i then left else
    if nat_le (slice_index numbers i) key
    then left_of (i + 1) left.high (left.compared + 1)
    else left_of left.low i (left.compared + 1)

-- after looks 1, 16 and 256 places after i
abbrev pub after_later_looks : List ℕ → ℕ → ℕ → Left → Left
after_later_looks numbers key i left =
    after_look numbers key (i + 256) (after_look numbers key (i + 16) (after_look numbers key (i + 1) left))

-- after looks 1, 16 and 256 places before i, or at the first number where there are fewer
abbrev pub after_earlier_looks : List ℕ → ℕ → ℕ → Left → Left
after_earlier_looks numbers key i left =
    after_look numbers key (i - 256) (after_look numbers key (i - 16) (after_look numbers key (i - 1) left))

-- after a look at i, and looks near it
unfoldable pub after_looks_near : List ℕ → ℕ → ℕ → Left
after_looks_near numbers key i =
    after_earlier_looks numbers key i (after_later_looks numbers key i (after_look numbers key i (all_of numbers)))

-- How many numbers a search from i on compares with the key: those at which it looks near i, and then those by which
-- what is left is halved.
unfoldable pub comparisons_from : List ℕ → ℕ → ℕ → ℕ
comparisons_from numbers key i =
    let near = after_looks_near numbers key i in
    near.compared + comparisons_between (near.high - near.low) numbers key near.low near.high

-- So many comparisons in a table of n entries, by a guess: at most four more than n has binary digits, and at least one
-- if it has an entry.
pub record IsFewByGuess (comparisons n : ℕ) : Type 0 where
  pub most : comparisons ≤ digits n + 4
  pub some : 0 < n → 1 ≤ comparisons

-- so many comparisons a search by halves makes
pub record IsCountByHalves (numbers : List ℕ) (key n : ℕ) : Type 0 where
  pub searched : n ≡ comparisons_in numbers key
  pub few : IsFew n (length numbers)

-- how many numbers a search by a guess compares with the key: by halves where there is no guess, else from there on
abbrev pub comparisons_begun_at : List ℕ → ℕ → Option ℕ → ℕ
comparisons_begun_at numbers key None = comparisons_in numbers key
comparisons_begun_at numbers key (Some i) = comparisons_from numbers key i

unfoldable pub comparisons_by_guess : List ℕ → ℕ → ℕ
comparisons_by_guess numbers key = comparisons_begun_at numbers key (expected_in numbers key)

-- so many comparisons a search by a guess makes
pub record IsCountByGuess (numbers : List ℕ) (key n : ℕ) : Type 0 where
  pub searched : n ≡ comparisons_by_guess numbers key
  pub few : IsFewByGuess n (length numbers)
