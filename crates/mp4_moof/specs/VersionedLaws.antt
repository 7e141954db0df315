-- A full box of one number of either version.
use Rattle.std.proofs.Common.{◌≡◌, ℕ, ◌+◌, Bool, true, false, cond, [], Ok, refl, sym, ap, ◌∙◌}
use Rattle.mp4_codec.specs.Bytes.{versioned, versioned_at, FitsVersion}
use Rattle.mp4_codec.specs.FieldLaws.{versioned_again, then_nothing}

-- its length: version, flags and the number
pub by_version : (b : Bool) → 1 + (3 + cond b 8 4) ≡ cond b 12 8
by_version true = refl
by_version false = refl

-- the number, that nothing follows, is read as it was written
pub versioned_last : (version x : ℕ) → FitsVersion version x → versioned_at version (versioned version x) ≡ Ok (x, [])
versioned_last version x h =
    ap (versioned_at version) (sym (then_nothing (versioned version x))) ∙ versioned_again version x [] h
