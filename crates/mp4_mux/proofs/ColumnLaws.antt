-- The values of runs, and what a column keeps true as its values come and go.
use Rattle.std.proofs.Common.{◌≡◌, ℕ, zero, suc, ◌+◌, ◌-◌, ◌<◌, ◌≤◌, List, [], ◌∷◌, ◌++◌, length, map, replicate}
use Rattle.std.proofs.Common.{get_or}
use Rattle.std.proofs.Common.{refl, sym, ap, ◌∙◌, append_assoc, arith}
use Rattle.std.specs.List.{AllByRecursion}
use Rattle.std.proofs.lemmas.List.{length-append, length-replicate, length_push, append-nil, replicate_more}
use Rattle.mp4_mux.specs.declared.column.Run.{Run}
use Rattle.mp4_mux.specs.Columns.{values_of, one_run, runs_in}
use Rattle.mp4_mux.specs.ColumnFields.{IsColumn}

module _ {X : Type 0} where
  pub values_of-append : (rs qs : List (Run X)) → values_of (rs ++ qs) ≡ values_of rs ++ values_of qs
  unfolding values_of
  values_of-append [] qs = refl
  values_of-append (r ∷ rs) qs =
      ap (λ vs. replicate r.count r.value ++ vs) (values_of-append rs qs)
      ∙ sym (append_assoc (replicate r.count r.value) (values_of rs) (values_of qs))

  values_of-ones : (xs : List X) → values_of (map one_run xs) ≡ xs
  unfolding values_of
  values_of-ones [] = refl
  values_of-ones (x ∷ xs) = ap (λ vs. x ∷ vs) (values_of-ones xs)

  -- the values of a column
  pub values_in : (runs : List (Run X)) (last : Run X) (each : List X)
      → values_of (runs_in runs last each) ≡ values_of runs ++ (replicate last.count last.value ++ each)
  unfolding values_of
  values_in runs last each =
      values_of-append runs (last ∷ map one_run each)
      ∙ ap (λ vs. values_of runs ++ (replicate last.count last.value ++ vs)) (values_of-ones each)

  pub length-values_in : (runs : List (Run X)) (last : Run X) (each : List X)
      → length (values_of (runs_in runs last each)) ≡ length (values_of runs) + last.count + length each
  length-values_in runs last each =
      omega (
        arith,
        ap length (values_in runs last each),
        length-append (values_of runs) (replicate last.count last.value ++ each),
        length-append (replicate last.count last.value) each,
        length-replicate last.count last.value,
      )

  -- runs that are not empty are as many as their values at most
  pub length-runs : (rs : List (Run X)) → AllByRecursion (λ (r : Run X). 1 ≤ r.count) rs
      → length rs ≤ length (values_of rs)
  unfolding values_of
  length-runs [] h = omega arith
  length-runs (r ∷ rs) h =
      omega (
        arith,
        h.0,
        length-runs rs h.1,
        length-append (replicate r.count r.value) (values_of rs),
        length-replicate r.count r.value,
      )

  all-push : (rs : List (Run X)) (r : Run X) → AllByRecursion (λ (r : Run X). 1 ≤ r.count) rs → 1 ≤ r.count
      → AllByRecursion (λ (r : Run X). 1 ≤ r.count) (rs ++ r ∷ [])
  all-push [] r h some = (some, tt)
  all-push (q ∷ rs) r h some = (h.0, all-push rs r h.1 some)

  pub all-init : (rs : List (Run X)) (r : Run X) → AllByRecursion (λ (r : Run X). 1 ≤ r.count) (rs ++ r ∷ [])
      → AllByRecursion (λ (r : Run X). 1 ≤ r.count) rs × (1 ≤ r.count)
  all-init [] r h = (tt, h.0)
  all-init (q ∷ rs) r h = ((h.0, (all-init rs r h.1).0), (all-init rs r h.1).1)

  pub all-at : (rs : List (Run X)) (i : ℕ) (d : Run X) → AllByRecursion (λ (r : Run X). 1 ≤ r.count) rs
      → i < length rs → 1 ≤ (get_or rs i d).count
  all-at [] i d h small = absurd (omega arith)
  all-at (r ∷ rs) zero d h small = h.0
  all-at (r ∷ rs) (suc i) d h small = all-at rs i d h.1 (omega arith)

  -- the values of a column where none is after its last run
  pub values_in-runs : (runs : List (Run X)) (last : Run X)
      → values_of (runs_in runs last []) ≡ values_of runs ++ replicate last.count last.value
  values_in-runs runs last =
      values_in runs last [] ∙ ap (λ vs. values_of runs ++ vs) (append-nil (replicate last.count last.value))

  -- a run that is empty, with one value
  pub replicate-first : (last : Run X) (v : X) → last.count ≡ 0
      → replicate 1 v ≡ replicate last.count last.value ++ v ∷ []
  replicate-first last v none = rw none refl

  -- a run with one more of its value
  pub replicate-next : (last : Run X) (v : X) → last.value ≡ v
      → replicate (last.count + 1) last.value ≡ replicate last.count last.value ++ v ∷ []
  replicate-next last v same =
      sym (replicate_more last.count last.value) ∙ ap (λ x. replicate last.count last.value ++ x ∷ []) same

  module _ (runs : List (Run X)) (last : Run X) (v : X) where
    -- one more value, as a longer last run
    pub values-longer : (r : Run X) → replicate r.count r.value ≡ replicate last.count last.value ++ v ∷ []
        → values_of (runs_in runs r []) ≡ values_of (runs_in runs last []) ++ v ∷ []
    values-longer r e =
        values_in-runs runs r
        ∙ ap (λ vs. values_of runs ++ vs) e
        ∙ sym (append_assoc (values_of runs) (replicate last.count last.value) (v ∷ []))
        ∙ ap (λ vs. vs ++ v ∷ []) (sym (values_in-runs runs last))

    -- one more value, as the first of another run
    pub values-run : values_of (runs_in (runs ++ last ∷ []) (one_run v) []) ≡ values_of (runs_in runs last []) ++ v ∷ []
    unfolding values_of
    values-run =
        let run = replicate last.count last.value in
        values_in-runs (runs ++ last ∷ []) (one_run v)
        ∙ ap (λ vs. vs ++ v ∷ [])
        (values_of-append runs (last ∷ [])
        ∙ ap (λ vs. values_of runs ++ vs) (append-nil run)
        ∙ sym (values_in-runs runs last))

    -- one more value, after the last run
    pub values-each : (each : List X)
        → values_of (runs_in runs last (each ++ v ∷ [])) ≡ values_of (runs_in runs last each) ++ v ∷ []
    values-each each =
        let run = replicate last.count last.value in
        values_in runs last (each ++ v ∷ [])
        ∙ ap (λ vs. values_of runs ++ vs) (sym (append_assoc run each (v ∷ [])))
        ∙ sym (append_assoc (values_of runs) (run ++ each) (v ∷ []))
        ∙ ap (λ vs. vs ++ v ∷ []) (sym (values_in runs last each))

  module _ (runs : List (Run X)) (last : Run X) (each : List X) (len : ℕ) (h : IsColumn runs last each len) where
    pub last-small : last.count ≤ len
    last-small = omega (arith, h.counted, length-values_in runs last each)

    pub runs-small : length runs + length each ≤ len
    runs-small = omega (arith, h.counted, length-values_in runs last each, length-runs runs h.some_per_run)

    pub each-column : (v : X) → 1 ≤ last.count → IsColumn runs last (each ++ v ∷ []) (len + 1)
    each-column v some = record {
      counted = ap length (values-each runs last v each)
          ∙ omega (arith, length_push (values_of (runs_in runs last each)) v, h.counted);
      some_per_run = h.some_per_run;
      some_at_end = λ _. some;
    }

  module _ (runs : List (Run X)) (last : Run X) (len : ℕ) (h : IsColumn runs last [] len) where
    pub longer-column : (r : Run X) (v : X)
        → replicate r.count r.value ≡ replicate last.count last.value ++ v ∷ [] → 1 ≤ r.count
        → IsColumn runs r [] (len + 1)
    longer-column r v e some = record {
      counted = ap length (values-longer runs last v r e)
          ∙ omega (arith, length_push (values_of (runs_in runs last [])) v, h.counted);
      some_per_run = h.some_per_run;
      some_at_end = λ _. some;
    }

    pub run-column : (v : X) → 1 ≤ last.count → IsColumn (runs ++ last ∷ []) (one_run v) [] (len + 1)
    run-column v some = record {
      counted = ap length (values-run runs last v)
          ∙ omega (arith, length_push (values_of (runs_in runs last [])) v, h.counted);
      some_per_run = all-push runs last h.some_per_run some;
      some_at_end = λ _. omega arith;
    }

  -- without the last value, which was after the last run
  pub column-each : (runs : List (Run X)) (last : Run X) (each : List X) (v : X) (len : ℕ)
      → IsColumn runs last (each ++ v ∷ []) len → IsColumn runs last each (len - 1)
  column-each runs last each v len h = record {
    counted = omega (
      arith,
      ap length (values-each runs last v each),
      length_push (values_of (runs_in runs last each)) v,
      h.counted,
    );
    some_per_run = h.some_per_run;
    some_at_end = λ more. h.some_at_end (omega arith);
  }

  -- without the last value, which was of the last run
  pub column-shorter : (runs : List (Run X)) (last : Run X) (len : ℕ) → IsColumn runs last [] len → 0 < len
      → (r : Run X) → r.count + 1 ≡ last.count → (0 < len - 1 → 1 ≤ r.count) → IsColumn runs r [] (len - 1)
  column-shorter runs last len h more r e some = record {
    counted = omega (arith, length-values_in runs r [], length-values_in runs last [], h.counted);
    some_per_run = h.some_per_run;
    some_at_end = some;
  }

  pub values-shorter : (runs : List (Run X)) (last : Run X) (n : ℕ) → n + 1 ≡ last.count
      → values_of (runs_in runs last [])
      ≡ values_of (runs_in runs (record { count = n; value = last.value }) []) ++ last.value ∷ []
  values-shorter runs last n e =
      values-longer runs (record { count = n; value = last.value }) last.value last
      (sym (replicate_more n last.value ∙ ap (λ k. replicate k last.value) e))

  length-one : (r : Run X) → length (values_of (r ∷ [])) ≡ r.count
  unfolding values_of
  length-one r = omega (arith, length-append (replicate r.count r.value) [], length-replicate r.count r.value)

  -- without the last value, which was a run
  pub column-run : (runs : List (Run X)) (r last : Run X) (len : ℕ) → IsColumn (runs ++ r ∷ []) last [] len
      → last.count ≡ 1 → IsColumn runs r [] (len - 1)
  column-run runs r last len h one =
      let init = all-init runs r h.some_per_run in
      record {
        counted = omega (
          arith,
          ap length (values_in-runs runs r),
          ap length (values_of-append runs (r ∷ [])),
          length-append (values_of runs) (values_of (r ∷ [])),
          length-values_in (runs ++ r ∷ []) last [],
          length-values_in runs r [],
          length-one r,
          h.counted,
        );
        some_per_run = init.0;
        some_at_end = λ _. init.1;
      }

  pub values-run-one : (runs : List (Run X)) (r last : Run X) → last.count ≡ 1
      → values_of (runs_in (runs ++ r ∷ []) last []) ≡ values_of (runs_in runs r []) ++ last.value ∷ []
  values-run-one runs r last one =
      ap (λ n. values_of (runs_in (runs ++ r ∷ []) (record { count = n; value = last.value }) [])) one
      ∙ values-run runs r last.value

  pub no-values : (rs : List (Run X)) → rs ≡ [] → length (values_of rs) ≡ 0
  unfolding values_of
  no-values rs none = rw none refl
