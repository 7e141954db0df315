-- A number that is not refused is within its bits.
use Rattle.std.proofs.Common.{◌≡◌, ℕ, ◌≤◌, Bool, true, false, cond, ltb, Some, None, refl}
use Rattle.std.proofs.lemmas.Bool.{ltb-false}
use Rattle.mp4_codec.specs.Cause.{unrepresentable}
use Rattle.mp4_entry.specs.Narrow.{past}

pub within : (most n : ℕ) → past most n ≡ None → n ≤ most
within most n e = chosen (ltb most n) (ltb-false most n) e
  where
    chosen : (t : Bool) → (t ≡ false → n ≤ most) → cond t (Some unrepresentable) None ≡ None → n ≤ most
    chosen true h e = absurd cc
    chosen false h e = h refl
