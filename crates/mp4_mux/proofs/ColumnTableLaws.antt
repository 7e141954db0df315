-- What tables say of samples, from lists of one kind of number of theirs.
use Rattle.std.proofs.Common.{◌≡◌, ℕ, ◌+◌, Bool, true, false, cond, List, [], ◌∷◌, map, fold, max, ◌==◌}
use Rattle.std.proofs.Common.{refl, sym, ap, ◌∙◌}
use Rattle.std.specs.List.{count_by}
use Rattle.std.proofs.lemmas.List.Folds.{list_all-map}
use Rattle.std.proofs.lemmas.List.Sums.{sum_by-cons}
use Rattle.mp4_mux.specs.declared.sample_info.SampleInfo.{SampleInfo}
use Rattle.mp4_mux.specs.SampleTables.{runs_from, runs_of, sync_numbers_from, one_size}
use Rattle.mp4_mux.specs.ColumnTables.{true_numbers_from, same_size}

module _ {X A R : Type 0} (eq : A → A → Bool) (run : ℕ → A → R) (f : X → A) where
  runs_from-map : (n : ℕ) (x : X) (ys : List X)
      → runs_from eq run n (f x) (map f ys) ≡ runs_from (λ a b. eq (f a) (f b)) (λ n x. run n (f x)) n x ys
  unfolding runs_from
  runs_from-map n x [] = refl
  runs_from-map n x (y ∷ ys) =
      (elim (eq (f x) (f y)) as (λ b. cond b (runs_from eq run (n + 1) (f y) (map f ys))
      (run n (f x) ∷ runs_from eq run 1 (f y) (map f ys))
      ≡ cond b (runs_from (λ a b. eq (f a) (f b)) (λ n x. run n (f x)) (n + 1) y ys)
      (run n (f x) ∷ runs_from (λ a b. eq (f a) (f b)) (λ n x. run n (f x)) 1 y ys)) [
        | true ↦ runs_from-map (n + 1) y ys
        | false ↦ ap (λ rs. run n (f x) ∷ rs) (runs_from-map 1 y ys)
      ])

  pub runs_of-map : (xs : List X)
      → runs_of eq run (map f xs) ≡ runs_of (λ a b. eq (f a) (f b)) (λ n x. run n (f x)) xs
  unfolding runs_of
  runs_of-map [] = refl
  runs_of-map (x ∷ xs) = runs_from-map 1 x xs

pub true_numbers-map : (k : ℕ) (ss : List SampleInfo)
    → true_numbers_from k (map (λ s. s.is_sync) ss) ≡ sync_numbers_from k ss
unfolding true_numbers_from sync_numbers_from
true_numbers-map k [] = refl
true_numbers-map k (s ∷ ss) =
    ap (λ ns. cond s.is_sync (k ∷ ns) ns) (true_numbers-map (k + 1) ss)

pub true_count-map : (ss : List SampleInfo)
    → count_by (λ b. b) (map (λ s. s.is_sync) ss) ≡ count_by (λ s. s.is_sync) ss
true_count-map [] = refl
true_count-map (s ∷ ss) =
    sum_by-cons (λ (b : Bool). cond b 1 0) s.is_sync (map (λ s. s.is_sync) ss)
    ∙ ap (λ n. cond s.is_sync 1 0 + n) (true_count-map ss)
    ∙ sym (sum_by-cons (λ (s : SampleInfo). cond s.is_sync 1 0) s ss)

pub same_size-map : (ss : List SampleInfo) → same_size (map (λ s. s.size) ss) ≡ one_size ss
unfolding same_size one_size
same_size-map [] = refl
same_size-map (s ∷ ss) = ap (λ b. cond b s.size 0) (list_all-map (λ y. y == s.size) (λ s. s.size) ss)

pub largest-map : (m : ℕ) (ss : List SampleInfo)
    → fold max m (map (λ s. s.size) ss) ≡ fold (λ largest s. max largest s.size) m ss
largest-map m [] = refl
largest-map m (s ∷ ss) = largest-map (max m s.size) ss
