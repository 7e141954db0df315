-- Texts of bytes.
use Rattle.std.proofs.Common.{◌≡◌, ℕ, ◌+◌, ◌<◌, true, false, List, [], ◌∷◌, ◌++◌, length, map, take, get_or}
use Rattle.std.proofs.Common.{refl, ap, ◌∙◌}
use Rattle.std.proofs.lemmas.List.{append-nil, map_more}
use Rattle.std.proofs.lemmas.Str.{encodes-append, IsUtf8-from_is_utf8, is_utf8-from_IsUtf8}
use Rattle.std.specs.Char.{encode_utf8}
use Rattle.std.specs.Str.{IsUtf8, encode_utf8_all, is_utf8}
use Rattle.mp4_report.specs.UserData.{mac_char}

-- a character more
pub next_char : (bytes : List ℕ) (i : ℕ) → i < length bytes
    → encode_utf8_all (map mac_char (take (i + 1) bytes))
    ≡ encode_utf8_all (map mac_char (take i bytes)) ++ encode_utf8 (mac_char (get_or bytes i 0))
next_char bytes i lt =
    let before = encode_utf8_all (map mac_char (take i bytes)) in
    let next = mac_char (get_or bytes i 0) in
    ap encode_utf8_all (map_more mac_char bytes i 0 lt)
    ∙ encodes-append (map mac_char (take i bytes)) (next ∷ [])
    ∙ ap (λ last. before ++ last) (append-nil (encode_utf8 next))

-- bytes that aren't UTF-8 don't pass the test for it
pub not_utf8 : (bytes : List ℕ) → (IsUtf8 bytes → ⊥) → is_utf8 bytes ≡ false
not_utf8 bytes none =
    (elim (is_utf8 bytes) as (λ passes. is_utf8 bytes ≡ passes → passes ≡ false) [
      | true ↦ λ e. absurd (none (IsUtf8-from_is_utf8 bytes e))
      | false ↦ λ e. refl
    ]) refl

pub ruleset utf8_tests = (is_utf8-from_IsUtf8, not_utf8)
