-- A field that is there where its flag is set is read as it was written.
use Rattle.std.proofs.Common.{◌≡◌, ℕ, ◌*◌, ◌^◌, ◌<◌, Bool, true, false, cond, List, [], length, Option, Some, None}
use Rattle.std.proofs.Common.{Result, Ok, refl}
use Rattle.std.proofs.Common.{sym, ap, ◌∙◌, arith}
use Rattle.std.specs.Prelude.{IfSome}
use Rattle.std.specs.Option.{option_len}
use Rattle.mp4_codec.specs.Cause.{Cause, invalid_data, ◌>>=◌}
use Rattle.mp4_codec.specs.Steps.{ok_is}
use Rattle.mp4_codec.specs.Bytes.{Reader, number_at, number, HasLength, ReadsBack, ◌⧺◌}
use Rattle.mp4_codec.specs.FieldLaws.{number_again, seen-has_length, then_nothing, nothing_then}
use Rattle.mp4_moof.specs.Optional.{is_set, optional_at, optional_field, flag_refusal}

pub length-optional_field : {A : Type 0} (write : A → List ℕ) (n : ℕ) → ((x : A) → length (write x) ≡ n)
    → (field : Option A) → length (optional_field write field) ≡ n * option_len field
unfolding optional_field
length-optional_field write n each None = omega arith
length-optional_field write n each (Some x) = each x ∙ omega arith

-- a flag and its field that agree
is_set-some : {A : Type 0} (flag flags : ℕ) (x : A) → flag_refusal flag flags (Some x) ≡ None → is_set flags flag ≡ true
unfolding flag_refusal
is_set-some flag flags x e = chosen (is_set flags flag) e
  where
    chosen : (b : Bool) → cond b None (Some invalid_data) ≡ None → b ≡ true
    chosen true e = refl
    chosen false e = absurd cc

is_set-none : (A : Type 0) (flag flags : ℕ) → flag_refusal {A = A} flag flags None ≡ None → is_set flags flag ≡ false
unfolding flag_refusal
is_set-none A flag flags e = chosen (is_set flags flag) e
  where
    chosen : (b : Bool) → cond b (Some invalid_data) None ≡ None → b ≡ false
    chosen true e = absurd cc
    chosen false e = refl

pub optional_again : {A : Type 0} (read : Reader A) (write : A → List ℕ) (Fits : A → Type 0) → ReadsBack read write Fits
    → (flag flags : ℕ) (field : Option A) (rest : List ℕ) → flag_refusal flag flags field ≡ None → IfSome field Fits
    → optional_at read flag flags (optional_field write field ⧺ rest) ≡ Ok (field, rest)
unfolding optional_at optional_field
optional_again {A} read write Fits back flag flags None rest agrees fits =
    rw (is_set-none A flag flags agrees, nothing_then rest) refl
optional_again read write Fits back flag flags (Some x) rest agrees fits =
    rw (is_set-some flag flags x agrees, back.again x rest fits) refl

-- the same for a field that nothing follows
pub optional_last : {A : Type 0} (read : Reader A) (write : A → List ℕ) (Fits : A → Type 0) → ReadsBack read write Fits
    → (flag flags : ℕ) (field : Option A) → flag_refusal flag flags field ≡ None → IfSome field Fits
    → optional_at read flag flags (optional_field write field) ≡ Ok (field, [])
optional_last read write Fits back flag flags field agrees fits =
    ap (optional_at read flag flags) (sym (then_nothing (optional_field write field)))
    ∙ optional_again read write Fits back flag flags field [] agrees fits

pub number_back : (n : ℕ) → ReadsBack (number_at n) (number n) (λ x. x < 256 ^ n)
number_back n = record { again = number_again n }

-- its length, which depends on its flag
pub optional-has_length : {A : Type 0} (read : Reader A) (n flag flags : ℕ) → HasLength read n
    → HasLength (optional_at read flag flags) (cond (is_set flags flag) n 0)
unfolding optional_at
optional-has_length {A} read n flag flags h = chosen (is_set flags flag)
  where
    chosen : (b : Bool)
        → HasLength (λ bytes. cond {A = Result (Option A × List ℕ) Cause} b (read bytes >>= λ x. Ok (Some x.0, x.1))
        (Ok (None, bytes))) (cond b n 0)
    chosen true = seen-has_length read n Some h
    chosen false = record {
      moves = λ bytes x rest e.
          let same : bytes ≡ rest = ap (λ (y : Option A × List ℕ). y.1) (ok_is (None, bytes) (x, rest) e) in
          rw same (omega arith);
      refuses = λ bytes c e. absurd cc;
      enough = λ bytes fits. ((None, bytes), refl);
    }
