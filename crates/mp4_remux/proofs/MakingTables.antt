-- The tables of a track while its samples are looked up, one after the other.
use Rattle.std.proofs.Common.{◌≡◌, ◌∙◌, ◌⊎◌, inl, inr, ◌+◌, ◌-◌, ◌^◌, ◌++◌, ℕ, zero, suc, max, min, List, [], ◌∷◌}
use Rattle.std.proofs.Common.{length}
use Rattle.std.proofs.Common.{None, Some, Ok, refl, sym, ap, subst, arith}
use Rattle.std.specs.Prelude.{slice_get}
use Rattle.std.proofs.lemmas.List.{length-append}
use Rattle.mp4_codec.specs.declared.error.Error.{Error}
use Rattle.mp4_samples.specs.declared.sample.Place.{Place}
use Rattle.mp4_mux.specs.declared.sample_info.SampleInfo.{SampleInfo}
use Rattle.mp4_media.specs.FileBoxes.{OpenedFile}
use Rattle.mp4_remux.specs.Descriptions.{description_of}
use Rattle.mp4_remux.specs.Headers.{HasNoSamples, IsShownUntil, shown_end}
use Rattle.mp4_remux.specs.Reads.{place_in}
use Rattle.mp4_remux.specs.TrackTables.{AllFit, AreSamplesOf, AreTablesOf, AreTooLarge, HasLarge, HoldsSamples}
use Rattle.mp4_remux.specs.TrackTables.{IsWhyNoTables, chunk_begins, infos, placed, placed_at, tables, tables_bytes}
use Rattle.mp4_remux.specs.declared.chunks.Chunk.{Chunk}
use Rattle.mp4_remux.specs.declared.chunks.PlacedSample.{PlacedSample}
use Rattle.mp4_remux.specs.declared.track_tables.MadeTables.{MadeTables}
use Rattle.mp4_remux.specs.declared.track_tables.SampleTables.{SampleTables}
use Rattle.mp4_remux.proofs.HeldSamples.{all_chunks}
use Rattle.mp4_remux.proofs.Showing.{AreShown, none_shown, shown_more}

-- an element of a list with one more at its end
get_more : {X : Type 0} (xs : List X) (x y : X) (i : ℕ) → slice_get (xs ++ x ∷ []) i ≡ Some y
    → (slice_get xs i ≡ Some y) ⊎ ((i ≡ length xs) × (x ≡ y))
get_more [] x y zero is = inr (refl, cc)
get_more [] x y (suc i) is = absurd cc
get_more (z ∷ zs) x y zero is = inl is
get_more (z ∷ zs) x y (suc i) is = by (get_more zs x y i is)
  where
    by : (slice_get zs i ≡ Some y) ⊎ ((i ≡ length zs) × (x ≡ y))
        → (slice_get (z ∷ zs) (suc i) ≡ Some y) ⊎ ((suc i ≡ length (z ∷ zs)) × (x ≡ y))
    by (inl there) = inl there
    by (inr last) = inr (omega (arith, last.0), last.1)

no_elements : {X : Type 0} (xs : List X) → length xs ≡ 0 → xs ≡ []
no_elements [] none = refl
no_elements (x ∷ xs) none = absurd (omega (arith, none))

module _ (opened : OpenedFile) (id : ℕ) where
  -- all have been shown then that were looked up, or the largest number is kept
  abbrev pub IsShown : ℕ → ℕ → Type 0
  IsShown k time = (end : ℕ) × (AreShown opened id k end × (time ≡ min (2 ^ 64 - 1) end))

  pub none_yet_shown : (time : ℕ) → time ≡ 0 → IsShown 0 time
  none_yet_shown time is = (0, (none_shown opened id, omega (arith, is)))

  pub one_more_shown : (k time after : ℕ) (p : Place) → IsShown k time → place_in opened id (k + 1) ≡ Ok (Some p)
      → after ≡ max time (min (2 ^ 64 - 1) (shown_end p)) → IsShown (k + 1) after
  one_more_shown k time after p shown there is = (
    max (shown_end p) shown.0,
    (shown_more opened id k shown.0 (shown_end p) p shown.1.0 refl there, omega (arith, is, shown.1.1)),
  )

  -- no sample is at the next number
  abbrev pub HasNoNext : ℕ → Type 0
  HasNoNext k = ((k + 1 ≡ 1) × HasNoSamples opened id) ⊎ (place_in opened id (k + 1) ≡ Ok None)

  all_shown : (k time : ℕ) → IsShown k time → HasNoNext k → (end : ℕ) × (IsShownUntil opened id end
      × (time ≡ min (2 ^ 64 - 1) end))
  all_shown k time shown none = (
    shown.0,
    (record { count = k; all = shown.1.0.all; one = shown.1.0.one; none = by none }, shown.1.1),
  )
    where
      by : HasNoNext k → ((k ≡ 0) × HasNoSamples opened id) ⊎ (place_in opened id (k + 1) ≡ Ok None)
      by (inl none) = inl (omega (arith, none.0), none.1)
      by (inr none) = inr none

  module _ (to : ℕ → ℕ) where
    placed_more : (k : ℕ) (ps : List Place) (p : Place) → placed opened id to k (ps ++ p ∷ [])
        ≡ placed opened id to k ps ++ placed_at (to p.offset) (description_of opened id (k + length ps)) p ∷ []
    unfolding placed
    placed_more k [] p =
        let same : k ≡ k + 0 = omega arith in
        ap (λ (n : ℕ). placed_at (to p.offset) (description_of opened id n) p ∷ []) same
    placed_more k (q ∷ qs) p =
        let same : k + 1 + length qs ≡ k + length (q ∷ qs) = omega arith in
        ap (λ (xs : List PlacedSample). placed_at (to q.offset) (description_of opened id k) q ∷ xs)
        (placed_more (k + 1) qs p
        ∙ ap (λ (n : ℕ). placed opened id to (k + 1) qs
        ++ placed_at (to p.offset) (description_of opened id n) p ∷ []) same)

    -- the tables hold the samples up to this one
    pub record AreMade (k : ℕ) (made : SampleTables) : Type 0 where
      pub samples : List Place
      pub count : length samples ≡ k
      pub each : (p : Place) (i : ℕ) → slice_get samples i ≡ Some p → place_in opened id (i + 1) ≡ Ok (Some p)
      pub held : HoldsSamples made (placed opened id to 1 samples)

    pub none_made : (made : SampleTables) → HoldsSamples made [] → AreMade 0 made
    unfolding placed
    none_made made held = record { samples = []; count = refl; each = λ p i there. absurd cc; held = held }

    pub next_made : (k place description : ℕ) (p : Place) (old new : SampleTables) → AreMade k old
        → place_in opened id (k + 1) ≡ Ok (Some p) → place ≡ to p.offset
        → description ≡ description_of opened id (k + 1)
        → ((samples : List PlacedSample) → HoldsSamples old samples
        → HoldsSamples new (samples ++ placed_at place description p ∷ [])) → AreMade (k + 1) new
    next_made k place description p old new made there moved described held = record {
      samples = made.samples ++ p ∷ [];
      count = length-append made.samples (p ∷ []) ∙ omega (arith, made.count);
      each = λ q i is. by q i (get_more made.samples p q i is);
      held = subst (HoldsSamples new) (sym (placed_more 1 made.samples p ∙ same))
          (held (placed opened id to 1 made.samples) made.held);
    }
      where
        by : (q : Place) (i : ℕ) → (slice_get made.samples i ≡ Some q) ⊎ ((i ≡ length made.samples) × (p ≡ q))
            → place_in opened id (i + 1) ≡ Ok (Some q)
        by q i (inl before) = made.each q i before
        by q i (inr last) =
            let number : k + 1 ≡ i + 1 = omega (arith, last.0, made.count) in
            ap (λ (n : ℕ). place_in opened id n) (sym number) ∙ there ∙ ap (λ (x : Place). Ok (Some x)) last.1

        same : placed opened id to 1 made.samples
            ++ placed_at (to p.offset) (description_of opened id (1 + length made.samples)) p ∷ []
            ≡ placed opened id to 1 made.samples ++ placed_at place description p ∷ []
        same =
            let number : 1 + length made.samples ≡ k + 1 = omega (arith, made.count) in
            rw (number, moved, described) refl

    module _ (k : ℕ) (made : SampleTables) (are : AreMade k made) (none : HasNoNext k) where
      all_samples : AreSamplesOf opened id are.samples
      all_samples = record { each = are.each; none = by none }
        where
          by : HasNoNext k → ((are.samples ≡ []) × HasNoSamples opened id)
              ⊎ (place_in opened id (length are.samples + 1) ≡ Ok None)
          by (inl none) = inl (no_elements are.samples (omega (arith, are.count, none.0)), none.1)
          by (inr none) = inr (ap (λ (n : ℕ). place_in opened id (n + 1)) are.count ∙ none)

      abbrev all_placed : List PlacedSample
      all_placed = placed opened id to 1 are.samples

      pub all_made : (t : MadeTables) → t.bytes.items ≡ tables_bytes made.samples made.chunks.items
          → AllFit (tables made.samples made.chunks.items)
          → t.chunks.items ≡ chunk_begins made.chunks.items → t.duration ≡ made.shown → IsShown k made.shown
          → AreTablesOf opened id to t
      all_made t bytes fit chunks duration shown =
          let until = all_shown k made.shown shown none in
          let same = all_chunks made all_placed are.held in
          record {
            samples = are.samples;
            are = all_samples;
            bytes = bytes ∙ ap (λ (ss : List SampleInfo). tables_bytes ss made.chunks.items) are.held.infos_are
                ∙ ap (λ (cs : List Chunk). tables_bytes (infos all_placed) cs) same;
            fit = subst AllFit
                (ap (λ (ss : List SampleInfo). tables ss made.chunks.items) are.held.infos_are
                ∙ ap (λ (cs : List Chunk). tables (infos all_placed) cs) same) fit;
            chunks = chunks ∙ ap (λ (cs : List Chunk). chunk_begins cs) same;
            end = until.0;
            shown = until.1.0;
            duration = duration ∙ until.1.1;
          }

      pub too_large : (e : Error) → AreTooLarge (tables made.samples made.chunks.items) e
          → IsWhyNoTables opened id to e
      too_large e (inl memory) = inl memory
      too_large e (inr large) =
          inr (inr (
            large.0,
            record {
              samples = are.samples;
              are = all_samples;
              large = subst HasLarge
                  (ap (λ (ss : List SampleInfo). tables ss made.chunks.items) are.held.infos_are
                  ∙ ap (λ (cs : List Chunk). tables (infos all_placed) cs) (all_chunks made all_placed are.held))
                  large.1;
            },
          ))
