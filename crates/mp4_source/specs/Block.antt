-- The bytes of a source that a window holds.
use Rattle.std.specs.Prelude.{◌≡◌, ℕ, ◌+◌, ◌≤◌, List, length, take, drop, Option, IfSome}

-- the n bytes from the place on are among the bytes of a block that begins at `start`
abbrev pub IsHeld : ℕ → ℕ → ℕ → ℕ → Type 0
IsHeld place n start filled = (start ≤ place) × (place + n ≤ start + filled)

-- where the bytes of a source are known, there are `len`, and the block's first `filled` are those from `start` on
abbrev pub IsBlockOf : Option (List ℕ) → ℕ → ℕ → ℕ → List ℕ → Type 0
IsBlockOf known len start filled bytes =
    IfSome known (λ xs. (len ≡ length xs) × (take filled bytes ≡ take filled (drop start xs)))
