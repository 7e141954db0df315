-- One more run in the index.
use Rattle.std.proofs.Common.{◌≡◌, ℕ, ◌+◌, ◌-◌, ◌^◌, ◌<◌, ◌≤◌, min, List, [], ◌∷◌, ◌++◌, length, Option, Some, refl}
use Rattle.std.proofs.Common.{sym, ap, ◌∙◌, arith, ⊎_elim}
use Rattle.std.specs.List.{sum_by}
use Rattle.std.proofs.lemmas.Bool.{cases_lt}
use Rattle.std.proofs.lemmas.List.{length_push, get_or_append_left, get_or_push, map_push, take-append-le, take_all}
use Rattle.std.proofs.lemmas.List.Sums.{sum_by_push}
use Rattle.mp4_search.specs.Sums.{CountsBefore}
use Rattle.mp4_fragments.specs.RunSamples.{PlacedRun, run_count}
use Rattle.mp4_fragments.specs.Index.{Find, placed_at, IsRight, Indexes, Pushed}
use Rattle.mp4_fragments.specs.declared.index.RunIndex.{RunIndex}
use Rattle.mp4_fragments.specs.Entry.{Entry}

pub CountsBefore-push : (runs : List PlacedRun) (counts : List ℕ) (before : ℕ) (p : PlacedRun)
    → CountsBefore run_count runs counts → before ≡ min (2 ^ 32 - 1) (sum_by run_count runs)
    → CountsBefore run_count (runs ++ p ∷ []) (counts ++ before ∷ [])
CountsBefore-push runs counts before p s e = record {
  count = omega (arith, length_push counts before, length_push runs p, s.count);
  each = λ i h.
      let small : i ≤ length runs = omega (arith, length_push runs p) in
      rw (take-append-le i runs (p ∷ []) small)
      (⊎_elim
      (λ (early : i < length runs). get_or_append_left counts (before ∷ []) 0 i (omega (arith, s.count))
      ∙ s.each i early)
      (λ (late : length runs ≤ i).
      let at : length counts ≡ i = omega (arith, s.count) in
      get_or_push counts before 0 i at ∙ e ∙ ap (λ xs. min (2 ^ 32 - 1) (sum_by run_count xs)) (sym
      (take_all i runs late)))
      (cases_lt i (length runs)));
}

capped : (limit a b c : ℕ) → a ≡ min limit b → min (a + c) limit ≡ min limit (b + c)
capped limit a b c e = omega arith

pub Indexes-push : (find : Find) (runs : List PlacedRun) (old new : RunIndex) (entry : Entry) (p : PlacedRun)
    → Pushed old new entry (run_count p) → placed_at find entry ≡ Some p → IsRight find entry
    → Indexes find runs old → Indexes find (runs ++ p ∷ []) new
Indexes-push find runs old new entry p pushed there right s =
    let all : sum_by run_count (runs ++ p ∷ []) ≡ sum_by run_count runs + run_count p = sum_by_push run_count runs p in
    record {
      entries = rw (
        pushed.entries,
        map_push (placed_at find) old.entries entry,
        map_push {Y = Option PlacedRun} Some runs p,
        s.entries,
        there,
      ) refl;
      right = rw pushed.entries (λ i d h.
          ⊎_elim
          (λ (early : i < length old.entries). rw (get_or_append_left old.entries (entry ∷ []) d i early)
          (s.right i d early))
          (λ (late : length old.entries ≤ i). rw (get_or_push old.entries entry d i (omega (
            arith,
            h,
            length_push old.entries entry,
          ))) right)
          (cases_lt i (length old.entries)));
      counts = rw pushed.counts (CountsBefore-push runs old.counts old.before p s.counts s.before);
      before = pushed.before ∙ capped (2 ^ 32 - 1) old.before (sum_by run_count runs) (run_count p) s.before
          ∙ ap (λ n. min (2 ^ 32 - 1) n) (sym all);
      total = pushed.total ∙ capped (2 ^ 64 - 1) old.total (sum_by run_count runs) (run_count p) s.total
          ∙ ap (λ n. min (2 ^ 64 - 1) n) (sym all);
    }

pub Indexes-none : (find : Find) (index : RunIndex) → index.counts ≡ [] → index.entries ≡ [] → index.before ≡ 0
    → index.total ≡ 0 → Indexes find [] index
Indexes-none find index e1 e2 e3 e4 = record {
  entries = rw e2 refl;
  right = rw e2 (λ i d h. absurd (omega (arith, h)));
  counts = rw e1 (record { count = refl; each = λ i h. absurd (omega (arith, h)) });
  before = e3;
  total = e4;
}
