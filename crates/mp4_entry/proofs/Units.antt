-- Parameter sets that are passed over, as a loop does, before they are kept.
use Rattle.std.proofs.Common.{◌≡◌, ℕ, zero, suc, ◌+◌, ◌-◌, ◌<◌, ◌≤◌, ◌%◌, Bool, true, false, cond, ltb, List, [], ◌∷◌}
use Rattle.std.proofs.Common.{length, Result, Ok, Err, refl, sym, ap, ◌∙◌, arith}
use Rattle.mp4_codec.specs.Cause.{Cause, invalid_data, ◌>>=◌, seen}
use Rattle.mp4_codec.specs.Bytes.{list_at, number_at, bytes_at}
use Rattle.mp4_codec.specs.Early.{takes_memory, refused_at_once}
use Rattle.mp4_entry.specs.declared.avcc.NalUnit.{NalUnit}
use Rattle.mp4_entry.specs.declared.avcc.AvcCBox.{AvcCBox}
use Rattle.mp4_entry.specs.Avcc.{unit_at, after_units, avcc_check, avcc_of}

abbrev rest_of : Result (List NalUnit × List ℕ) Cause → Result (List ℕ) Cause
rest_of r = r >>= λ sets. Ok sets.1

rest_of_more : (first : NalUnit) (r : Result (List NalUnit × List ℕ) Cause)
    → rest_of (◌>>=◌ {B = List NalUnit × List ℕ} r (λ others. Ok (first ∷ others.0, others.1))) ≡ rest_of r
rest_of_more first (Ok x) = refl
rest_of_more first (Err c) = refl

module _ (count i : ℕ) (bytes : List ℕ) (total : Result (List ℕ) Cause) (lt : i < count)
    (so_far : after_units (count - i) bytes ≡ total) where
  steps : count - i ≡ suc (count - (i + 1))
  steps = omega arith

  pub goes_on : (unit : NalUnit) (after : List ℕ) → unit_at bytes ≡ Ok (unit, after)
      → after_units (count - (i + 1)) after ≡ total
  unfolding list_at
  goes_on unit after read =
      let one : after_units (count - i) bytes ≡ after_units (count - (i + 1)) after =
      rw (steps, read) (rest_of_more unit (list_at unit_at (count - (i + 1)) after)) in
      sym one ∙ so_far

  pub ends : (c : Cause) → unit_at bytes ≡ Err c → total ≡ Err c
  unfolding list_at
  ends c read =
      let one : after_units (count - i) bytes ≡ Err c = rw (steps, read) refl in
      sym so_far ∙ one

pub is_done : (count i : ℕ) (bytes : List ℕ) (total : Result (List ℕ) Cause) → count ≤ i
    → after_units (count - i) bytes ≡ total → total ≡ Ok bytes
unfolding list_at
is_done count i bytes total le so_far =
    let none : count - i ≡ 0 = omega arith in
    let one : after_units (count - i) bytes ≡ Ok bytes = rw none refl in
    sym so_far ∙ one

-- a step of both, where the rest of one is the rest of the other
step : {A B : Type 0} (r : Result A Cause) (f : A → Result B Cause) (g : A → Result (Unit {0}) Cause)
    → ((x : A) → g x ≡ seen (λ _. tt) (f x)) → (r >>= g) ≡ seen (λ _. tt) (r >>= f)
step (Ok x) f g same = same x
step (Err c) f g same = refl

sets_step : {B : Type 0} (r : Result (List NalUnit × List ℕ) Cause) (f : List NalUnit × List ℕ → Result B Cause)
    (g : List ℕ → Result (Unit {0}) Cause) → ((x : List NalUnit × List ℕ) → g x.1 ≡ seen (λ _. tt) (f x))
    → (rest_of r >>= g) ≡ seen (λ _. tt) (r >>= f)
sets_step (Ok x) f g same = same x
sets_step (Err c) f g same = refl

-- what is passed over is what is kept
check-is : (payload : List ℕ) → avcc_check payload ≡ seen (λ _. tt) (avcc_of payload)
unfolding avcc_check avcc_of
check-is payload =
    step (number_at 1 payload) _ _ (λ version. step (number_at 1 version.1) _ _ (λ profile.
    step (number_at 1 profile.1) _ _ (λ compatibility. step (number_at 1 compatibility.1) _ _ (λ level.
    step (number_at 1 level.1) _ _ (λ length_size. step (number_at 1 length_size.1) _ _ (λ sequences.
    sets_step (list_at unit_at (sequences.0 % 32) sequences.1) _ _ (λ sequence_sets.
    step (number_at 1 sequence_sets.1) _ _ (λ pictures.
    sets_step (list_at unit_at pictures.0 pictures.1) _ _ (λ picture_sets. refl)))))))))

refused : (r : Result AvcCBox Cause) (c : Cause) → seen {B = Unit {0}} (λ _. tt) r ≡ Err c → r ≡ Err c
refused (Ok x) c e = absurd cc
refused (Err d) c e = let same : d ≡ c = cc in ap Err same

passed : (r : Result AvcCBox Cause) (u : Unit {0}) → seen (λ _. tt) r ≡ Ok u → refused_at_once r ≡ takes_memory
passed (Ok x) u e = refl
passed (Err d) u e = absurd cc

pub check-refuses : (payload : List ℕ) (c : Cause) → avcc_check payload ≡ Err c → avcc_of payload ≡ Err c
check-refuses payload c e = refused (avcc_of payload) c (sym (check-is payload) ∙ e)

pub check-passes : (payload : List ℕ) (u : Unit {0}) → avcc_check payload ≡ Ok u
    → refused_at_once (avcc_of payload) ≡ takes_memory
check-passes payload u e = passed (avcc_of payload) u (sym (check-is payload) ∙ e)

pub ruleset checked = (check-refuses, check-passes)

-- one set, by its length and its bytes
pub one_read : (bytes mid part rest : List ℕ) (n : ℕ) → number_at 2 bytes ≡ Ok (n, mid)
    → bytes_at n mid ≡ Ok (part, rest) → unit_at bytes ≡ Ok (record { bytes = part }, rest)
unfolding unit_at
one_read bytes mid part rest n e f = rw (e, f) refl

pub no_length : (bytes : List ℕ) (c : Cause) → number_at 2 bytes ≡ Err c → unit_at bytes ≡ Err c
unfolding unit_at
no_length bytes c e = rw e refl

pub too_short : (bytes mid : List ℕ) (n : ℕ) (c : Cause) → number_at 2 bytes ≡ Ok (n, mid) → bytes_at n mid ≡ Err c
    → unit_at bytes ≡ Err c
unfolding unit_at
too_short bytes mid n c e f = rw (e, f) refl
