-- Running sums rise, and what a search in counts says of the runs that were counted.
use Rattle.std.proofs.Common.{◌≡◌, ℕ, ◌+◌, ◌-◌, ◌^◌, ◌<◌, ◌≤◌, List, length, get_or, take, ap, arith, ⊎_elim}
use Rattle.std.specs.Prelude.{slice_index}
use Rattle.std.specs.List.{sum_by}
use Rattle.std.specs.List.Sorted.{IsNonDecreasing}
use Rattle.std.proofs.lemmas.Bool.{cases_lt}
use Rattle.std.proofs.lemmas.List.{get_or_default, take-take}
use Rattle.std.proofs.lemmas.List.Sums.{sum_by_more, sum_by-take-le}
use Rattle.mp4_search.specs.Search.{IsLastAtMost}
use Rattle.mp4_search.specs.Sums.{CountsBefore}

pub sums_rise : {X : Type 0} (f : X → ℕ) (xs : List X) (i j : ℕ) → i ≤ j → sum_by f (take i xs) ≤ sum_by f (take j xs)
sums_rise f xs i j h =
    let one : sum_by f (take i (take j xs)) ≤ sum_by f (take j xs) = sum_by-take-le f (take j xs) i in
    let same : sum_by f (take i (take j xs)) ≡ sum_by f (take i xs) = ap (sum_by f) (take-take i j xs h) in
    omega (arith, one, same)

pub counts_rise : {X : Type 0} (f : X → ℕ) (xs : List X) (counts : List ℕ) → CountsBefore f xs counts
    → IsNonDecreasing counts
counts_rise f xs counts s i j d h k =
    rw (get_or_default counts i d 0 (omega arith), get_or_default counts j d 0 k)
    (omega (arith, sums_rise f xs i j h, s.each i (omega (arith, s.count)), s.each j (omega (arith, s.count))))

-- the run that was found is there, and what comes before it is at most what was sought
pub before_found : {X : Type 0} (f : X → ℕ) (xs : List X) (counts : List ℕ) (key i : ℕ) → CountsBefore f xs counts
    → key < 2 ^ 32 - 1 → IsLastAtMost counts key i
    → (i < length xs) × (slice_index counts i ≡ sum_by f (take i xs)) × (sum_by f (take i xs) ≤ key)
before_found f xs counts key i s small at =
    let within : i < length xs = omega (arith, s.count, at.within) in
    let each = s.each i within in
    (within, omega (arith, each, at.small), omega (arith, each, at.small))

-- what lies past the run that was found lies past all
pub past_found : {X : Type 0} (f : X → ℕ) (xs : List X) (counts : List ℕ) (key i : ℕ) (d : X)
    → CountsBefore f xs counts
    → key < 2 ^ 32 - 1 → IsLastAtMost counts key i → f (get_or xs i d) ≤ key - slice_index counts i
    → (length xs ≤ i + 1) × (sum_by f (take (i + 1) xs) ≤ key)
past_found f xs counts key i d s small at past =
    let found = before_found f xs counts key i s small at in
    let more : sum_by f (take (i + 1) xs) ≡ sum_by f (take i xs) + f (get_or xs i d) = sum_by_more f xs i d found.0 in
    let reached : sum_by f (take (i + 1) xs) ≤ key = omega (arith, more, past, found.1, found.2) in (
      ⊎_elim
          (λ (h : i + 1 < length xs).
          absurd (omega (arith, reached, at.later (i + 1) (omega arith) (omega (arith, s.count)), s.each (i + 1) h)))
          (λ q. q)
          (cases_lt (i + 1) (length xs)),
      reached,
    )

-- nothing is found only where there is nothing
pub none_found : {X : Type 0} (f : X → ℕ) (xs : List X) (counts : List ℕ) (key : ℕ) → CountsBefore f xs counts
    → ((j : ℕ) → j < length counts → key < slice_index counts j) → length xs ≡ 0
none_found f xs counts key s above =
    ⊎_elim
    (λ (h : 0 < length xs). absurd (omega (arith, above 0 (omega (arith, s.count)), s.each 0 h)))
    (λ q. omega arith)
    (cases_lt 0 (length xs))
