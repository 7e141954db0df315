-- The number that a text writes is what std's parse gives.
use Rattle.std.proofs.Common.{◌≡◌, ℕ, zero, suc, ◌^◌, ◌<◌, Bool, true, false, cond, eqb, ltb, List, [], ◌∷◌}
use Rattle.std.proofs.Common.{length, Some, None, Result, Ok, Err, refl, sym, ap, ◌∙◌, arith, lit<}
use Rattle.std.proofs.lemmas.Bool.{eqb-true, eqb-false, ne_eqb, lt-ltb, ltb-true}
use Rattle.std.proofs.lemmas.Str.{IsUtf8-from_ascii}
use Rattle.std.proofs.lemmas.Str.Parse.{IsNumeralModel, numerals_by_weight, tells_all_ascii_digits}
use Rattle.std.proofs.lemmas.Str.Parse.{parse_plain, parse_plus}
use Rattle.std.specs.Prelude.{slice_index}
use Rattle.std.specs.Result.{OkIff}
use Rattle.std.specs.Str.{IsUtf8, all_ascii_digits}
use Rattle.std.specs.Str.Parse.{ParsesUnsigned}
use Rattle.mp4_meta.specs.Metadata.{without_plus, decimal_value, numeral, year_in_text}

abbrev AreDigits : List ℕ → Type 0
AreDigits ds = all_ascii_digits ds ≡ true

model : IsNumeralModel AreDigits decimal_value
model =
    numerals_by_weight AreDigits tells_all_ascii_digits decimal_value
    (record { empty = refl; more = λ c cs k. refl })

-- what is asked of digits
abbrev Fits : List ℕ → Type 0
Fits ds = AreDigits ds × (0 < length ds) × (decimal_value ds < 2 ^ 32)

parsed : {E : Type 0} (bs : List ℕ) (r : Result ℕ E) → ParsesUnsigned 32 10 bs r
    → OkIff r (Fits (without_plus bs)) (decimal_value (without_plus bs))
parsed [] r h = parse_plain model 32 [] r h (λ e. absurd (omega (arith, e)))
parsed {E} (c ∷ cs) r h = chosen (eqb c 43) (eqb-true c 43) (eqb-false c 43)
  where
    chosen : (b : Bool) → (b ≡ true → c ≡ 43) → (b ≡ false → c ≡ 43 → ⊥)
        → OkIff r (Fits (cond b cs (c ∷ cs))) (decimal_value (cond b cs (c ∷ cs)))
    chosen true e n = parse_plus model 32 (c ∷ cs) r h (e refl)
    chosen false e n = parse_plain model 32 (c ∷ cs) r h (n refl)

numeral_is : (ds : List ℕ) → Fits ds → numeral ds ≡ Some (decimal_value ds)
unfolding numeral
numeral_is ds f = rw (ne_eqb (length ds) 0 (λ e. omega (arith, e, f.1)), f.0, lt-ltb _ _ f.2) refl

no_numeral : (ds : List ℕ) → (Fits ds → ⊥) → numeral ds ≡ None
unfolding numeral
no_numeral ds unfit =
    chosen (eqb (length ds) 0) (all_ascii_digits ds) (ltb (decimal_value ds) (2 ^ 32))
    (λ z a f. unfit (a, omega (arith, eqb-false (length ds) 0 z), ltb-true _ _ f))
  where
    chosen : (z a f : Bool) → (z ≡ false → a ≡ true → f ≡ true → ⊥)
        → cond z None (cond a (cond f (Some (decimal_value ds)) None) None) ≡ None
    chosen true a f none = refl
    chosen false false f none = refl
    chosen false true false none = refl
    chosen false true true none = absurd (none refl refl refl)

pub year-parsed : (bs : List ℕ) (n : ℕ) → ParsesUnsigned {E = ℕ} 32 10 bs (Ok n) → Some n ≡ year_in_text bs
year-parsed bs n h =
    let p = parsed {E = ℕ} bs (Ok n) h in
    ap Some p.1 ∙ sym (numeral_is (without_plus bs) p.0)

pub year-refused : {E : Type 0} (bs : List ℕ) (e : E) → ParsesUnsigned 32 10 bs (Err e) → None ≡ year_in_text bs
year-refused bs e h = sym (no_numeral (without_plus bs) (parsed bs (Err e) h))

ascii_digits : (ds : List ℕ) → AreDigits ds → (i : ℕ) → slice_index ds i < 128
ascii_digits [] a i = lit< tt
ascii_digits (c ∷ cs) a zero = let k = tells_all_ascii_digits.parts c cs a in omega (arith, k.0.1)
ascii_digits (c ∷ cs) a (suc i) = let k = tells_all_ascii_digits.parts c cs a in ascii_digits cs k.1 i

ascii_text : (bs : List ℕ) → AreDigits (without_plus bs) → (i : ℕ) → slice_index bs i < 128
ascii_text [] a i = lit< tt
ascii_text (c ∷ cs) a i = chosen (eqb c 43) (eqb-true c 43) a i
  where
    chosen : (b : Bool) → (b ≡ true → c ≡ 43) → AreDigits (cond b cs (c ∷ cs)) → (i : ℕ) → slice_index (c ∷ cs) i < 128
    chosen true e d zero = let k = e refl in omega (arith, k)
    chosen true e d (suc i) = ascii_digits cs d i
    chosen false e d i = ascii_digits (c ∷ cs) d i

-- what is not UTF-8 writes no number
pub year-not_text : (bs : List ℕ) → (IsUtf8 bs → ⊥) → None ≡ year_in_text bs
year-not_text bs other = sym (no_numeral (without_plus bs) (λ f. other (IsUtf8-from_ascii bs (ascii_text bs f.0))))
