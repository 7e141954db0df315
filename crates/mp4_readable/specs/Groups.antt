-- Numbers in groups of three decimal digits.
use Rattle.std.specs.Prelude.{◌≡◌, ℕ, ◌+◌, ◌-◌, ◌*◌, ◌<◌, ◌≤◌, nat_lt, List, fold, length, slice_index, All}
use Rattle.std.specs.Prelude.{if◌then◌else◌}
use Rattle.std.specs.List.{AllWithin}

-- the number whose groups these are, the highest first
abbrev pub number_of_groups : List ℕ → ℕ
number_of_groups groups = fold (λ above group. above * 1000 + group) 0 groups

-- how many decimal digits a group has where it is written first
abbrev pub digits_in_group : ℕ → ℕ
digits_in_group group = if nat_lt group 10 then 1 else if nat_lt group 100 then 2 else 3

-- of seven groups, this one is written first: the highest that isn't 0, or the last
pub record IsFirstWritten (groups : List ℕ) (first : ℕ) : Type 0 where
  pub within : first ≤ 6
  pub zeros : AllWithin (λ group. group ≡ 0) groups 0 first
  pub some : first < 6 → 0 < slice_index groups first

-- so many characters a number has in groups: the digits of the first that is written, and a comma and three digits of
-- each that follows
abbrev pub IsGroupedLength : ℕ → ℕ → Type 0
IsGroupedLength number n =
    (groups : List ℕ) × (length groups ≡ 7) × (number_of_groups groups ≡ number) × (All (λ group. group < 1000) groups)
    × (first : ℕ) × (IsFirstWritten groups first) × (n ≡ digits_in_group (slice_index groups first) + 4 * (6 - first))
