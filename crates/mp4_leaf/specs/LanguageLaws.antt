-- A language is read as it was written.
use Rattle.std.proofs.Common.{◌≡◌, ℕ, ◌+◌, ◌*◌, ◌/◌, ◌%◌, ◌<◌, ◌≤◌, ◌^◌, Bool, true, false, cond, leb, Some, List, []}
use Rattle.std.proofs.Common.{◌∷◌, None, refl, arith}
use Rattle.std.specs.Prelude.{IsTrue, ◌&&◌}
use Rattle.mp4_codec.specs.Cause.{unrepresentable}
use Rattle.std.proofs.lemmas.Bool.{leb-true, and_parts}
use Rattle.mp4_leaf.specs.Language.{letter, is_letter, unpacked, packed, is_language, language_refusal}

-- a text that is written is three letters
pub language-written : (text : List ℕ) → language_refusal text ≡ None → IsTrue (is_language text)
unfolding language_refusal
language-written text e = chosen (is_language text) e
  where
    chosen : (b : Bool) → cond b None (Some unrepresentable) ≡ None → IsTrue b
    chosen true e = refl
    chosen false e = absurd cc

packed_three-small : (a b c : ℕ) → a % 32 * 1024 + b % 32 * 32 + c % 32 < 2 ^ 16
packed_three-small a b c = omega arith

letter-first : (a b c : ℕ) → 0x60 ≤ a → a ≤ 0x7f → letter ((a % 32 * 1024 + b % 32 * 32 + c % 32) / 1024) ≡ a
letter-first a b c low high = omega arith

letter-second : (a b c : ℕ) → 0x60 ≤ b → b ≤ 0x7f → letter ((a % 32 * 1024 + b % 32 * 32 + c % 32) / 32) ≡ b
letter-second a b c low high = omega arith

letter-third : (a b c : ℕ) → 0x60 ≤ c → c ≤ 0x7f → letter (a % 32 * 1024 + b % 32 * 32 + c % 32) ≡ c
letter-third a b c low high = omega arith

range : (c : ℕ) → is_letter c ≡ true → (0x60 ≤ c) × (c ≤ 0x7f)
range c h =
    let parts = and_parts (leb 0x60 c) (leb c 0x7f) h in
    (leb-true 0x60 c parts.0, leb-true c 0x7f parts.1)

unpacked_three : (a b c : ℕ) → is_language (a ∷ b ∷ c ∷ []) ≡ true → unpacked (packed (a ∷ b ∷ c ∷ [])) ≡ a ∷ b ∷ c ∷ []
unpacked_three a b c h =
    let parts = and_parts (is_letter a) (is_letter b && is_letter c) h in
    let others = and_parts (is_letter b) (is_letter c) parts.1 in
    let first = range a parts.0 in
    let second = range b others.0 in
    let third = range c others.1 in
    rw (letter-first a b c first.0 first.1, letter-second a b c second.0 second.1, letter-third a b c third.0 third.1)
    refl

pub packed-small : (text : List ℕ) → packed text < 2 ^ 16
packed-small (a ∷ b ∷ c ∷ []) = packed_three-small a b c
packed-small [] = omega arith
packed-small (a ∷ []) = omega arith
packed-small (a ∷ b ∷ []) = omega arith
packed-small (a ∷ b ∷ c ∷ d ∷ text) = omega arith

pub unpacked-packed : (text : List ℕ) → IsTrue (is_language text) → unpacked (packed text) ≡ text
unpacked-packed (a ∷ b ∷ c ∷ []) h = unpacked_three a b c h
unpacked-packed [] h = absurd cc
unpacked-packed (a ∷ []) h = absurd cc
unpacked-packed (a ∷ b ∷ []) h = absurd cc
unpacked-packed (a ∷ b ∷ c ∷ d ∷ text) h = absurd cc
