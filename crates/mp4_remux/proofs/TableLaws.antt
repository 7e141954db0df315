-- The tables of samples.
use Rattle.std.proofs.Common.{◌≡◌, ◌⊎◌, inl, inr, ◌+◌, ◌^◌, ◌<◌, ◌≤◌, ◌++◌, ◌==◌, ℕ, Bool, true, false}
use Rattle.std.proofs.Common.{if◌then◌else◌}
use Rattle.std.proofs.Common.{List, [], ◌∷◌, length, map, Some, None, refl, sym, ap, append_assoc, arith}
use Rattle.std.proofs.Common.{eq-eqb, subst, suc, zero}
use Rattle.std.proofs.lemmas.List.{append-nil, length-map}
use Rattle.std.specs.List.{flat_map, list_all}
use Rattle.std.specs.Prelude.{slice_get}
use Rattle.mp4_codec.specs.declared.error.Error.{Error}
use Rattle.mp4_codec.specs.Cause.{invalid_data}
use Rattle.mp4_table.specs.Stsz.{stsz_refusal}
use Rattle.mp4_table.specs.declared.ctts.CttsBox.{CttsBox}
use Rattle.mp4_table.specs.declared.stss.StssBox.{StssBox}
use Rattle.mp4_mux.specs.SampleTables.{ctts_for, listed_sizes, one_size, stss_for, stsz_for, sync_numbers_from}
use Rattle.mp4_mux.specs.declared.sample_info.SampleInfo.{SampleInfo}
use Rattle.mp4_remux.specs.TrackTables.{AllFit, AreTooLarge, HasNoRoom, signed_ctts_for, some_stss_for, with_sign}

-- SYNC SAMPLES

abbrev all_sync : List SampleInfo → Bool
all_sync ss = list_all (λ (s : SampleInfo). s.is_sync) ss

at_most : (k : ℕ) (ss : List SampleInfo) → length (sync_numbers_from k ss) ≤ length ss
unfolding sync_numbers_from
at_most k [] = omega arith
at_most k (s ∷ ss) = by s.is_sync (at_most (k + 1) ss)
  where
    by : (b : Bool) → length (sync_numbers_from (k + 1) ss) ≤ length ss
        → length (if b then k ∷ sync_numbers_from (k + 1) ss else sync_numbers_from (k + 1) ss) ≤ length (s ∷ ss)
    by true le = omega (arith, le)
    by false le = omega (arith, le)

-- as many as there are samples where all are, and less where not
as_many : (k : ℕ) (ss : List SampleInfo) → ((all_sync ss ≡ true) × (length (sync_numbers_from k ss) ≡ length ss))
    ⊎ ((all_sync ss ≡ false) × (length (sync_numbers_from k ss) < length ss))
unfolding sync_numbers_from
as_many k [] = inl (refl, refl)
as_many k (s ∷ ss) = by s.is_sync refl (as_many (k + 1) ss)
  where
    by : (b : Bool) → s.is_sync ≡ b
        → ((all_sync ss ≡ true) × (length (sync_numbers_from (k + 1) ss) ≡ length ss))
        ⊎ ((all_sync ss ≡ false) × (length (sync_numbers_from (k + 1) ss) < length ss))
        → ((all_sync (s ∷ ss) ≡ true) × (length (sync_numbers_from k (s ∷ ss)) ≡ length (s ∷ ss)))
        ⊎ ((all_sync (s ∷ ss) ≡ false) × (length (sync_numbers_from k (s ∷ ss)) < length (s ∷ ss)))
    by true is (inl all) = inl (rw is all.0, rw is (omega (arith, all.1)))
    by true is (inr some) = inr (rw is some.0, rw is (omega (arith, some.1)))
    by false is other = inr (rw is refl, rw is (omega (arith, at_most (k + 1) ss)))

-- where there is no sample
pub none_there : (ss : List SampleInfo) → stss_for ss ≡ None → some_stss_for ss ≡ None
unfolding some_stss_for stss_for
none_there [] none = refl
none_there (s ∷ ss) none = absurd cc

module _ (ss : List SampleInfo) (b : StssBox) (is : stss_for ss ≡ Some b) where
  entries_are : b.entries ≡ sync_numbers_from 1 ss
  unfolding stss_for
  entries_are = by ss is
    where
      by : (ss : List SampleInfo) → stss_for ss ≡ Some b → b.entries ≡ sync_numbers_from 1 ss
      by [] is = absurd cc
      by (s ∷ ss) is =
          let same : record { version = 0; flags = 0; entries = sync_numbers_from 1 (s ∷ ss) } ≡ b = cc in
          ap (λ (x : StssBox). x.entries) (sym same)

  -- less are sync samples
  pub some_there : length b.entries < length ss → some_stss_for ss ≡ Some b
  unfolding some_stss_for
  some_there less = by (as_many 1 ss)
    where
      by : ((all_sync ss ≡ true) × (length (sync_numbers_from 1 ss) ≡ length ss))
          ⊎ ((all_sync ss ≡ false) × (length (sync_numbers_from 1 ss) < length ss))
          → (if all_sync ss then None else stss_for ss) ≡ Some b
      by (inl all) = absurd (omega (arith, less, all.1, ap (λ (xs : List ℕ). length xs) entries_are))
      by (inr some) = rw some.0 is

  -- all are
  pub all_there : length ss ≤ length b.entries → some_stss_for ss ≡ None
  unfolding some_stss_for
  all_there many = by (as_many 1 ss)
    where
      by : ((all_sync ss ≡ true) × (length (sync_numbers_from 1 ss) ≡ length ss))
          ⊎ ((all_sync ss ≡ false) × (length (sync_numbers_from 1 ss) < length ss))
          → (if all_sync ss then None else stss_for ss) ≡ None
      by (inl all) = rw all.0 refl
      by (inr some) = absurd (omega (arith, many, some.1, ap (λ (xs : List ℕ). length xs) entries_are))

-- OFFSETS

module _ (ss : List SampleInfo) where
  pub none_signed : ctts_for ss ≡ None → signed_ctts_for ss ≡ None
  unfolding signed_ctts_for
  none_signed none = rw none refl

  pub some_signed : (b : CttsBox) (version : ℕ) → ctts_for ss ≡ Some b → version ≡ (with_sign b).version
      → signed_ctts_for ss ≡ Some (record { version = version; flags = b.flags; entries = b.entries })
  unfolding signed_ctts_for
  some_signed b version is sign = rw (is, sign) refl

-- SIZES

-- as many sizes are listed as there have to be
pub sizes_listed : (ss : List SampleInfo) → stsz_refusal (stsz_for ss) ≡ None
unfolding stsz_refusal stsz_for listed_sizes
sizes_listed ss = by (one_size ss == 0)
  where
    by : (b : Bool) → (if length (if b then map (λ (s : SampleInfo). s.size) ss else []) == (if b then length ss else 0)
        then None else Some invalid_data) ≡ None
    by true = rw (length-map ss (λ (s : SampleInfo). s.size), eq-eqb (length ss) (length ss) refl) refl
    by false = refl

-- ONE AFTER THE OTHER

pub one_by_one : (old a b c d e one two three four new : List ℕ) → one ≡ old ++ a → two ≡ one ++ b → three ≡ two ++ c
    → four ≡ three ++ d → new ≡ four ++ e
    → new ≡ old ++ flat_map (λ (table : List ℕ). table) (a ∷ b ∷ c ∷ d ∷ e ∷ [])
one_by_one old a b c d e one two three four new is_one is_two is_three is_four is =
    rw (is, is_four, is_three, is_two, is_one, append-nil e) (simp append_assoc)

-- one of some has no room
pub of_table : (ts : List (List ℕ)) (i : ℕ) (t : List ℕ) (e : Error) → slice_get ts i ≡ Some t → HasNoRoom t e
    → AreTooLarge ts e
of_table ts i t e there (inl memory) = inl memory
of_table ts i t e there (inr large) =
    inr (large.0, record { table = t; number = i; there = there; large = large.1 })

some_same : {x y : List ℕ} → Some x ≡ Some y → x ≡ y
some_same is = cc

-- five of which each has room
pub five_fit : (a b c d e : List ℕ) → length a < 2 ^ 32 → length b < 2 ^ 32 → length c < 2 ^ 32 → length d < 2 ^ 32
    → length e < 2 ^ 32 → AllFit (a ∷ b ∷ c ∷ d ∷ e ∷ [])
five_fit a b c d e one two three four five t n is = by n is
  where
    fits : (x : List ℕ) → length x < 2 ^ 32 → Some x ≡ Some t → length t < 2 ^ 32
    fits x room same = subst (λ (xs : List ℕ). length xs < 2 ^ 32) (some_same same) room

    by : (n : ℕ) → slice_get (a ∷ b ∷ c ∷ d ∷ e ∷ []) n ≡ Some t → length t < 2 ^ 32
    by zero is = fits a one is
    by (suc zero) is = fits b two is
    by (suc (suc zero)) is = fits c three is
    by (suc (suc (suc zero))) is = fits d four is
    by (suc (suc (suc (suc zero)))) is = fits e five is
    by (suc (suc (suc (suc (suc n))))) is = absurd cc
