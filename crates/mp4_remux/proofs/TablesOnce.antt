-- Of a track whose data is moved so there are only these tables.
use Rattle.std.proofs.Common.{◌≡◌, ◌∙◌, ◌⊎◌, inl, inr, ◌+◌, ◌-◌, ◌^◌, ◌<◌, ◌≤◌, ℕ, zero, suc, min, List, [], ◌∷◌}
use Rattle.std.proofs.Common.{length}
use Rattle.std.proofs.Common.{None, Some, Ok, refl, sym, ap, arith}
use Rattle.std.specs.Prelude.{slice_get}
use Rattle.std.proofs.lemmas.Bool.{cases_lt}
use Rattle.mp4_samples.specs.declared.sample.Place.{Place}
use Rattle.mp4_media.specs.FileBoxes.{OpenedFile}
use Rattle.mp4_remux.specs.Headers.{HasNoSamples}
use Rattle.mp4_remux.specs.Reads.{place_in}
use Rattle.mp4_remux.specs.TrackTables.{AreSamplesOf, AreTablesOf, begins_of, bytes_of, placed}
use Rattle.mp4_remux.specs.declared.track_tables.MadeTables.{MadeTables}
use Rattle.mp4_remux.proofs.Showing.{shown_once}

-- there is an element at each number below the length
element : {X : Type 0} (xs : List X) (i : ℕ) → i < length xs → (x : X) × (slice_get xs i ≡ Some x)
element [] i lt = absurd (omega (arith, lt))
element (x ∷ xs) zero lt = (x, refl)
element (x ∷ xs) (suc i) lt = element xs i (omega (arith, lt))

-- lists that are as long and have the same elements are one
same_list : {X : Type 0} (xs ys : List X) → length xs ≡ length ys
    → ((x y : X) (i : ℕ) → slice_get xs i ≡ Some x → slice_get ys i ≡ Some y → x ≡ y) → xs ≡ ys
same_list [] [] long same = refl
same_list [] (y ∷ ys) long same = absurd (omega (arith, long))
same_list (x ∷ xs) [] long same = absurd (omega (arith, long))
same_list (x ∷ xs) (y ∷ ys) long same =
    rw (same x y 0 refl refl)
    (ap (λ zs. y ∷ zs) (same_list xs ys (omega (arith, long)) (λ a b i one other. same a b (suc i) one other)))

module _ (opened : OpenedFile) (id : ℕ) where
  -- after all samples of a track there is none
  not_longer : (xs ys : List Place) → AreSamplesOf opened id xs → AreSamplesOf opened id ys → length xs < length ys → ⊥
  not_longer xs ys are also less = by are.none
    where
      next : (p : Place) × (place_in opened id (length xs + 1) ≡ Ok (Some p))
      next = let one = element ys (length xs) less in (one.0, also.each one.0 (length xs) one.1)

      by : ((xs ≡ []) × HasNoSamples opened id) ⊎ (place_in opened id (length xs + 1) ≡ Ok None) → ⊥
      by (inl none) =
          let number : length xs + 1 ≡ 1 = ap (λ (ps : List Place). length ps + 1) none.0 in
          none.1.1 next.0 (ap (λ (n : ℕ). place_in opened id n) (sym number) ∙ next.1)
      by (inr none) = let both = sym next.1 ∙ none in absurd cc

  pub samples_once : (xs ys : List Place) → AreSamplesOf opened id xs → AreSamplesOf opened id ys → xs ≡ ys
  samples_once xs ys are also = same_list xs ys (long (cases_lt (length xs) (length ys))) same
    where
      long : (length xs < length ys) ⊎ (length ys ≤ length xs) → length xs ≡ length ys
      long (inl less) = absurd (not_longer xs ys are also less)
      long (inr many) = more (cases_lt (length ys) (length xs))
        where
          more : (length ys < length xs) ⊎ (length xs ≤ length ys) → length xs ≡ length ys
          more (inl less) = absurd (not_longer ys xs also are less)
          more (inr few) = omega (arith, many, few)

      same : (x y : Place) (i : ℕ) → slice_get xs i ≡ Some x → slice_get ys i ≡ Some y → x ≡ y
      same x y i one other = let both = sym (are.each x i one) ∙ also.each y i other in cc

  -- two tables of one track are the same
  pub record AreSameTables (a b : MadeTables) : Type 0 where
    pub bytes : a.bytes.items ≡ b.bytes.items
    pub chunks : a.chunks.items ≡ b.chunks.items
    pub duration : a.duration ≡ b.duration

  pub tables_once : (to : ℕ → ℕ) (a b : MadeTables) → AreTablesOf opened id to a → AreTablesOf opened id to b
      → AreSameTables a b
  tables_once to a b one other =
      let same = samples_once one.samples other.samples one.are other.are in
      record {
        bytes = one.bytes ∙ ap (λ (ps : List Place). bytes_of (placed opened id to 1 ps)) same ∙ sym other.bytes;
        chunks = one.chunks ∙ ap (λ (ps : List Place). begins_of (placed opened id to 1 ps)) same ∙ sym other.chunks;
        duration = one.duration
            ∙ ap (λ (n : ℕ). min (2 ^ 64 - 1) n) (shown_once opened id one.end other.end one.shown other.shown)
            ∙ sym other.duration;
      }
