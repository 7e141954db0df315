-- Texts that aren't there.
use Rattle.std.proofs.Common.{◌≡◌, ◌⊎◌, inl, inr, ℕ, ◌-◌, Bool, true, false, List, [], length, take, drop}
use Rattle.std.proofs.Common.{Result, Ok, Err, sym, ap, arith, take_all, ◌∙◌}
use Rattle.std.proofs.lemmas.List.{length-drop}
use Rattle.std.specs.Prelude.{◌/◌, IfErr, if◌then◌else◌}
use Rattle.mp4_codec.specs.Bytes.{list_at, number_at}
use Rattle.mp4_codec.specs.Cause.{Cause, cause_of, invalid_data, out_of_memory, too_large, zero_timescale}
use Rattle.mp4_codec.specs.declared.error.Error.{Error}
use Rattle.mp4_codec.specs.declared.error.Error.TheVariants.{OutOfMemory}
use Rattle.mp4_codec.specs.declared.error.Limit.TheVariants.{Value}
use Rattle.mp4_extract.specs.Texts.{HasNoText, IsNoUtf16, begins_utf16, milliseconds_of, text_bytes}

-- units that weren't read
pub no_units : (e : Error) (bytes : List ℕ) (r : Result (List ℕ × List ℕ) Cause)
    → list_at (number_at 2) (length bytes / 2) bytes ≡ r → (e ≡ OutOfMemory) ⊎ (r ≡ Err (cause_of e))
    → (e ≡ OutOfMemory) ⊎ (cause_of e ≡ invalid_data)
    → (e ≡ OutOfMemory) ⊎ ((cause_of e ≡ invalid_data) × IsNoUtf16 bytes)
no_units e bytes r is (inl memory) cause = inl memory
no_units e bytes r is (inr refused) (inl memory) = inl memory
no_units e bytes r is (inr refused) (inr cause) =
    inr (cause, inl (λ some. absurd (other some.0 (sym some.1 ∙ is ∙ refused))))
  where
    other : (units : List ℕ) → (let a : Result (List ℕ × List ℕ) Cause = Ok (units, []) in a) ≡ Err (cause_of e) → ⊥
    other units e = cc

module _ (sample bytes : List ℕ) (there : text_bytes sample ≡ Ok bytes) (is : begins_utf16 bytes ≡ true) where
  rest_is : take (length bytes - 2) (drop 2 bytes) ≡ drop 2 bytes
  rest_is = take_all (length bytes - 2) (drop 2 bytes) (omega (arith, length-drop 2 bytes))

  one_refused : (e : Error)
      → (e ≡ OutOfMemory) ⊎ ((cause_of e ≡ invalid_data) × IsNoUtf16 (take (length bytes - 2) (drop 2 bytes)))
      → (e ≡ OutOfMemory) ⊎ ((cause_of e ≡ invalid_data) × HasNoText sample)
  one_refused e (inl memory) = inl memory
  one_refused e (inr refused) = inr (refused.0, inr (bytes, there, rw is (rw rest_is at refused.1)))

  -- a text in UTF-16 that is refused
  pub text_refused : {T : Type 0} (r : Result T Error)
      → IfErr r (λ e. (e ≡ OutOfMemory)
      ⊎ ((cause_of e ≡ invalid_data) × IsNoUtf16 (take (length bytes - 2) (drop 2 bytes))))
      → IfErr r (λ e. (e ≡ OutOfMemory) ⊎ ((cause_of e ≡ invalid_data) × HasNoText sample))
  text_refused (Ok x) refused = tt
  text_refused (Err e) refused = one_refused e refused

-- a refused text wants no memory
pub cause_wants_none : (e : Error) → cause_of e ≡ invalid_data → e ≡ OutOfMemory → ⊥
cause_wants_none e cause memory = by (ap cause_of (sym memory) ∙ cause)
  where
    by : out_of_memory ≡ invalid_data → ⊥
    by e = cc

-- a time wants none
pub time_wants_none : (ticks timescale : ℕ) (e : Error) → milliseconds_of ticks timescale ≡ Err (cause_of e)
    → e ≡ OutOfMemory → ⊥
unfolding milliseconds_of
time_wants_none ticks timescale e refused memory = by _ _ _ (refused ∙ ap (λ (x : Error). Err (cause_of x)) memory)
  where
    by : (b c : Bool) (n : ℕ)
        → (let a : Result ℕ Cause = if b then Err zero_timescale else if c then Err (too_large Value) else Ok n in a)
        ≡ Err out_of_memory → ⊥
    by true c n e = cc
    by false true n e = cc
    by false false n e = cc
