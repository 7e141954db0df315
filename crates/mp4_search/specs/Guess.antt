-- Where a search by a guess begins: on the straight line from the first to the last of some numbers that rise, where
-- they lie near it.
use Rattle.std.specs.Prelude.{ℕ, zero, suc, ◌+◌, ◌-◌, ◌*◌, ◌/◌, ◌%◌, ◌^◌, ◌==◌, nat_le, nat_lt, min, max, List, length}
use Rattle.std.specs.Prelude.{Bool, if◌then◌else◌, slice_index, Option, Some, None, option_map}
use Rattle.mp4_search.specs.Digits.{digits}
use Rattle.mp4_search.specs.declared.line.Line.{Line}

-- the root of a number, rounded down to a power of 2
unfoldable pub root : ℕ → ℕ
root n = 2 ^ ((digits n - 1) / 2)

-- how many places some numbers go on for each 1 that they rise, times 2^32; rounded up, so that no number of the line
-- itself is placed before its own place
unfoldable pub places_for : ℕ → ℕ → ℕ
places_for len rise = if rise == 0 then 0 else min (len - 1) rise * 2 ^ 32 / rise + 1

-- the line from the first of some numbers to the last
unfoldable pub line_through : List ℕ → Line
line_through numbers =
    let first = slice_index numbers 0 in
    record { first = first; places = places_for (length numbers) (slice_index numbers (length numbers - 1) - first) }

-- the place of a number on a line
unfoldable pub place_on : Line → ℕ → ℕ
place_on line number = (number - line.first) * line.places / 2 ^ 32

-- how far two places are apart
abbrev pub distance : ℕ → ℕ → ℕ
distance a b = (a - b) + (b - a)

-- whether the number at an index is farther from its place on a line than three fifths of the root of how many numbers
-- there are
unfoldable pub strays : Line → List ℕ → ℕ → Bool
strays line numbers i =
    let far = distance (place_on line (slice_index numbers i)) i in
    nat_lt (length numbers * 9 / 25) (far * far)

-- the nth of some places that are spread over all, by the golden section
unfoldable pub spread_place : ℕ → ℕ → ℕ
spread_place len n = len * (n * 2654435769 % 2 ^ 32) / 2 ^ 32

-- at how many of the first n of these places the numbers stray from a line
unfoldable pub strays_among : Line → List ℕ → ℕ → ℕ
strays_among line numbers zero = 0
strays_among line numbers (suc n) =
    strays_among line numbers n + (if strays line numbers (spread_place (length numbers) (suc n)) then 1 else 0)

-- whether they lie near it at all but a quarter of them
abbrev pub is_near : Line → List ℕ → ℕ → Bool
is_near line numbers n = nat_le (strays_among line numbers n) (n / 4)

-- The line from the first to the last, where the numbers are more than seven, and lie near it at all but a quarter of
-- about as many places as the root of how many they are.
unfoldable pub line_of : List ℕ → Option Line
line_of numbers =
    if nat_le (length numbers) 7 then None else
    if is_near (line_through numbers) numbers (max (root (length numbers)) 7) then Some (line_through numbers) else None

-- the index at which a search by a guess begins; None where it begins in the middle, as by halves
unfoldable pub expected_in : List ℕ → ℕ → Option ℕ
expected_in numbers key = option_map (λ line. min (place_on line key) (length numbers - 1)) (line_of numbers)
