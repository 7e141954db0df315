-- A step over the samples of a track, with their bytes.
use Rattle.std.proofs.Common.{◌≡◌, ℕ, ◌+◌, Bool, true, false, nat_lt, List, [], ◌∷◌, length, Some}
use Rattle.std.proofs.Common.{Result, Ok, Err, refl}
use Rattle.std.specs.Prelude.{IfOk, if◌then◌else◌}
use Rattle.std.specs.Result.{is_err}
use Rattle.mp4_codec.specs.Cause.{Cause, Gives, cause_of, end_of_data}
use Rattle.mp4_codec.specs.declared.error.Error.{Error}
use Rattle.mp4_samples.specs.declared.sample.Place.{Place}
use Rattle.mp4_samples.specs.declared.sample.SampleRef.{SampleRef}
use Rattle.mp4_samples.specs.Samples.{borrowed_sample, read_at, read_in}
use Rattle.mp4_media.specs.InOrder.{ReadSample, read_all, ref_answer}

-- what is left after a sample that was read, or refused
abbrev pub rest_of_answers : Bool → List ℕ → List (Result Place Cause) → List (Result ReadSample Cause)
rest_of_answers ended file answers = if ended then [] else read_all file answers

module _ (file : List ℕ) (p : Place) (answers : List (Result Place Cause)) where
  abbrev past : Bool
  past = nat_lt (length file) (p.offset + p.size)

  pub read_step : (r : Result SampleRef Error) (ended : Bool)
      → Gives (λ s. Some (borrowed_sample s)) r (read_in file (Some p)) → IfOk r (λ s. s.offset ≡ p.offset)
      → ended ≡ is_err r → read_all file (Ok p ∷ answers) ≡ ref_answer r ∷ rest_of_answers ended file answers
  unfolding read_all
  read_step (Ok s) ended rule at e = rw e (by past rule)
    where
      by : (b : Bool) → (if b then Err end_of_data else Ok (Some (read_at file p))) ≡ Ok (Some (borrowed_sample s))
          → (if b then Err end_of_data ∷ [] else Ok (p.offset, read_at file p) ∷ read_all file answers)
          ≡ Ok (s.offset, borrowed_sample s) ∷ read_all file answers
      by true wrong = absurd cc
      by false same =
          let one : read_at file p ≡ borrowed_sample s = cc in
          rw (one, at) refl
  read_step (Err error) ended rule at e = rw e (by past rule)
    where
      by : (b : Bool) → (if b then Err end_of_data else Ok (Some (read_at file p))) ≡ Err (cause_of error)
          → (if b then Err end_of_data ∷ [] else Ok (p.offset, read_at file p) ∷ read_all file answers)
          ≡ Err (cause_of error) ∷ []
      by true same =
          let one : end_of_data ≡ cause_of error = cc in
          rw one refl
      by false wrong = absurd cc

pub refused_step : (file : List ℕ) (c : Cause) (answers : List (Result Place Cause))
    → read_all file (Err c ∷ answers) ≡ Err c ∷ []
unfolding read_all
refused_step file c answers = refl

pub no_step : (file : List ℕ) → read_all file [] ≡ []
unfolding read_all
no_step file = refl
