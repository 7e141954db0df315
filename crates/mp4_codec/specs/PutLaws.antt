-- One piece after another at the end of a buffer.
use Rattle.std.proofs.lemmas.List.{append-nil}
use Rattle.std.proofs.Common.{[], ◌≡◌, ℕ, List, ◌++◌, sym, ap, ◌∙◌, append_assoc}
use Rattle.std.specs.Prelude.{ℤ, FitsSigned}
use Rattle.std.specs.Int.{w16, w32, cast_signed, cast_unsigned}
use Rattle.std.proofs.lemmas.Int.{to_z-of_z}
use Rattle.mp4_codec.specs.Bytes.{int16, int32, number, Appends, ◌⧺◌}

infixr 5 ◌then◌
pub ◌then◌ : {old mid new piece rest : List ℕ} → Appends old mid piece → Appends mid new rest
    → Appends old new (piece ⧺ rest)
unfolding ◌⧺◌
◌then◌ {old} {mid} {new} {piece} {rest} first second =
    record { is = second.is ∙ ap (λ (x : List ℕ). x ++ rest) first.is ∙ append_assoc old piece rest }

-- a signed number that a callee's clause shows as it is cast there and back
pub int16_piece : {old new : List ℕ} (z : ℤ) → FitsSigned w16 z
    → Appends old new (int16 (cast_signed w16 (cast_unsigned w16 z))) → Appends old new (int16 z)
int16_piece {old} {new} z fits e = record { is = e.is ∙ ap (λ (x : ℤ). old ++ int16 x) (to_z-of_z w16 z fits) }

pub int32_piece : {old new : List ℕ} (z : ℤ) → FitsSigned w32 z
    → Appends old new (int32 (cast_signed w32 (cast_unsigned w32 z))) → Appends old new (int32 z)
int32_piece {old} {new} z fits e = record { is = e.is ∙ ap (λ (x : ℤ). old ++ int32 x) (to_z-of_z w32 z fits) }

-- the number may be written in another way
pub number_piece : {old new : List ℕ} (n x y : ℕ) → x ≡ y → Appends old new (number n x) → Appends old new (number n y)
number_piece {old} {new} n x y e p = record { is = p.is ∙ ap (λ (z : ℕ). old ++ number n z) e }

-- nothing is added
pub nothing_added : (old : List ℕ) → Appends old old []
nothing_added old = record { is = sym (append-nil old) }
