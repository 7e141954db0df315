-- The last member that passes a test, found by its place.
use Rattle.std.proofs.Common.{◌≡◌, ℕ, zero, suc, ◌<◌, Bool, true, false, cond, Option, Some, None, List, []}
use Rattle.std.proofs.Common.{◌∷◌, length, get_or, refl, ap, ◌∙◌, arith}
use Rattle.std.specs.List.{fold}
use Rattle.mp4_table.specs.Chunks.{last_where}

-- where none passes, what was found before stays
none_passes : {X : Type 0} (test : X → Bool) → (xs : List X) (found : Option X)
    → ((k : ℕ) (d : X) → k < length xs → test (get_or xs k d) ≡ false)
    → fold (λ f x. cond (test x) (Some x) f) found xs ≡ found
none_passes test [] found h = refl
none_passes test (x ∷ xs) found h =
    let at : test x ≡ false = h 0 x (omega arith) in
    none_passes test xs (cond (test x) (Some x) found) (λ k d q. h (suc k) d (omega arith))
    ∙ ap (λ b. cond b (Some x) found) at

last_from : {X : Type 0} (test : X → Bool) → (xs : List X) (found : Option X) (i : ℕ) (e : X) → i < length xs
    → test (get_or xs i e) ≡ true → ((k : ℕ) (d : X) → i < k → k < length xs → test (get_or xs k d) ≡ false)
    → fold (λ f x. cond (test x) (Some x) f) found xs ≡ Some (get_or xs i e)
last_from test [] found i e h p q = absurd (omega arith)
last_from test (x ∷ xs) found zero e h p q =
    none_passes test xs (cond (test x) (Some x) found) (λ k d r. q (suc k) d (omega arith) (omega arith))
    ∙ ap (λ b. cond b (Some x) found) p
last_from test (x ∷ xs) found (suc i) e h p q =
    last_from test xs (cond (test x) (Some x) found) i e (omega arith) p
    (λ k d r s. q (suc k) d (omega arith) (omega arith))

-- the member at i passes and none after it does
pub last_where_is : {X : Type 0} (test : X → Bool) (xs : List X) (i : ℕ) (e : X) → i < length xs
    → test (get_or xs i e) ≡ true → ((k : ℕ) (d : X) → i < k → k < length xs → test (get_or xs k d) ≡ false)
    → last_where test xs ≡ Some (get_or xs i e)
last_where_is test xs i e h p q = last_from test xs None i e h p q

-- none passes
pub last_where_none : {X : Type 0} (test : X → Bool) (xs : List X)
    → ((k : ℕ) (d : X) → k < length xs → test (get_or xs k d) ≡ false) → last_where test xs ≡ None
last_where_none test xs h = none_passes test xs None h
