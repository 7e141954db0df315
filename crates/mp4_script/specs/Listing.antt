-- The lines of a track's samples.
use Rattle.std.specs.Prelude.{ℕ, ℤ, Bool, List, [], ◌∷◌, ◌++◌, if◌then◌else◌}
use Rattle.std.specs.Fmt.{decimal, signed_decimal}

-- the line of sample k: its number, its place, its bytes, when it is decoded, how long it lasts, how much later it is
-- shown, and 1 for a sync sample or 0
unfoldable pub sample_line : (k offset size start_time duration : ℕ) (later : ℤ) (is_sync : Bool) → List ℕ
sample_line k offset size start_time duration later is_sync =
    decimal k ++ 32 ∷ (decimal offset ++ 32 ∷ (decimal size ++ 32 ∷ (decimal start_time ++ 32 ∷ (decimal duration ++ 32
    ∷ (signed_decimal later ++ 32 ∷ (decimal (if is_sync then 1 else 0) ++ 10 ∷ []))))))
