-- Samples that lie one after the other in a file (ISO/IEC 14496-12, 8.7).
use Rattle.std.specs.Prelude.{◌≡◌, ℕ, zero, suc, ◌+◌, Option, Some, Result, Ok}
use Rattle.mp4_codec.specs.Cause.{Cause}
use Rattle.mp4_samples.specs.declared.sample.Place.{Place}

-- n samples from number k on, where lookups answer so: the first begins at this offset, and each of the others where
-- the one before it ends; together they have so many bytes
abbrev pub AreNeighbours : (ℕ → Result (Option Place) Cause) → ℕ → ℕ → ℕ → ℕ → Type 0
AreNeighbours places k offset zero size = size ≡ 0
AreNeighbours places k offset (suc n) size =
    (before : ℕ) × (last : Place) × (AreNeighbours places k offset n before) × (places (k + n) ≡ Ok (Some last))
    × (last.offset ≡ offset + before) × (size ≡ before + last.size)
