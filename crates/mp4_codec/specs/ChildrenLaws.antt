-- The children of a payload, one step at a time.
use Rattle.std.proofs.Common.{◌≡◌, ℕ, zero, suc, ◌≤◌, ◌<◌, Bool, true, false, cond, ltb, eqb, List, [], ◌∷◌, length}
use Rattle.std.proofs.Common.{Option, Some, None, Result, Ok, Err, refl, sym, ap, ◌∙◌}
use Rattle.std.proofs.lemmas.Bool.{le-ltb, ltb-false, ltb-true, lt-ltb}
use Rattle.std.proofs.lemmas.Bool.{eqb-true}
use Rattle.mp4_codec.specs.declared.box_type.BoxType.{BoxType}
use Rattle.mp4_codec.specs.BoxType.{code_of, box_type, IsNamed}
use Rattle.mp4_codec.specs.Cause.{Cause, invalid_data}
use Rattle.mp4_codec.specs.Children.{ChildBox, child_at, walk, next_at, next_of, is_of}

-- what the next step of a walk says of the bytes
pub record Begins (bytes : List ℕ) (k : ChildBox) (rest : List ℕ) : Type 0 where
  pub long : 8 ≤ length bytes
  pub is : child_at bytes ≡ Some (k, rest)

pub record Breaks (bytes : List ℕ) (c : Cause) : Type 0 where
  pub long : 8 ≤ length bytes
  pub none : child_at bytes ≡ None
  pub cause : c ≡ invalid_data

abbrev step : Option ChildBox × List ℕ → Result (Option ChildBox × List ℕ) Cause
step x = Ok x

step_is : (x y : Option ChildBox × List ℕ) → step x ≡ step y → x ≡ y
step_is x y e = cc

abbrev some_child : ChildBox → Option ChildBox
some_child k = Some k

child_is : (x y : ChildBox) → some_child x ≡ some_child y → x ≡ y
child_is x y e = cc

not_some : (k : ChildBox) → some_child k ≡ None → ⊥
not_some k e = absurd cc

given : (o : Option (ChildBox × List ℕ)) (k : ChildBox) (rest : List ℕ) → next_of o ≡ Ok (Some k, rest)
    → o ≡ Some (k, rest)
given None k rest e = absurd cc
given (Some x) k rest e =
    let p = step_is (Some x.0, x.1) (Some k, rest) e in
    let first : x.0 ≡ k = child_is x.0 k (ap (λ (y : Option ChildBox × List ℕ). y.0) p) in
    let second : x.1 ≡ rest = ap (λ (y : Option ChildBox × List ℕ). y.1) p in
    ap (λ (y : ChildBox). Some (y, x.1)) first ∙ ap (λ (z : List ℕ). Some (k, z)) second

tested : (b : Bool) (bytes : List ℕ) (o : Option (ChildBox × List ℕ)) (k : ChildBox) (rest : List ℕ)
    → cond b (Ok (None, bytes)) (next_of o) ≡ Ok (Some k, rest) → (b ≡ false) × (o ≡ Some (k, rest))
tested true bytes o k rest e =
    absurd (not_some k (sym (ap (λ (y : Option ChildBox × List ℕ). y.0) (step_is (None, bytes) (Some k, rest) e))))
tested false bytes o k rest e = (refl, given o k rest e)

pub begins : (bytes : List ℕ) (k : ChildBox) (rest : List ℕ) → next_at bytes ≡ Ok (Some k, rest) → Begins bytes k rest
begins bytes k rest e =
    let t = tested (ltb (length bytes) 8) bytes (child_at bytes) k rest e in
    record { long = ltb-false _ _ t.0; is = t.1 }

not_given : (o : Option (ChildBox × List ℕ)) (rest : List ℕ) → next_of o ≡ Ok (None, rest) → ⊥
not_given None rest e = absurd cc
not_given (Some x) rest e =
    not_some x.0 (ap (λ (y : Option ChildBox × List ℕ). y.0) (step_is (Some x.0, x.1) (None, rest) e))

ended : (b : Bool) (bytes : List ℕ) (o : Option (ChildBox × List ℕ)) (rest : List ℕ)
    → cond b (Ok (None, bytes)) (next_of o) ≡ Ok (None, rest) → b ≡ true
ended true bytes o rest e = refl
ended false bytes o rest e = absurd (not_given o rest e)

pub ends : (bytes rest : List ℕ) → next_at bytes ≡ Ok (None, rest) → length bytes < 8
ends bytes rest e = ltb-true _ _ (ended (ltb (length bytes) 8) bytes (child_at bytes) rest e)

lacked : (o : Option (ChildBox × List ℕ)) (c : Cause) → next_of o ≡ Err c → (o ≡ None) × (c ≡ invalid_data)
lacked None c e = (refl, cc)
lacked (Some x) c e = absurd cc

broken : (b : Bool) (bytes : List ℕ) (o : Option (ChildBox × List ℕ)) (c : Cause)
    → cond b (Ok (None, bytes)) (next_of o) ≡ Err c → (b ≡ false) × (o ≡ None) × (c ≡ invalid_data)
broken true bytes o c e = absurd cc
broken false bytes o c e = let l = lacked o c e in (refl, l.0, l.1)

pub breaks : (bytes : List ℕ) (c : Cause) → next_at bytes ≡ Err c → Breaks bytes c
breaks bytes c e =
    let t = broken (ltb (length bytes) 8) bytes (child_at bytes) c e in
    record { long = ltb-false _ _ t.0; none = t.1; cause = t.2 }

pub walk-begins : (n : ℕ) (bytes : List ℕ) (k : ChildBox) (rest : List ℕ) → Begins bytes k rest
    → walk (suc n) bytes ≡ (k ∷ (walk n rest).0, (walk n rest).1)
unfolding walk
walk-begins n bytes k rest b = rw (le-ltb _ _ b.long, b.is) refl

pub walk-ends : (n : ℕ) (bytes : List ℕ) → length bytes < 8 → walk n bytes ≡ ([], bytes)
unfolding walk
walk-ends zero bytes h = refl
walk-ends (suc n) bytes h = rw (lt-ltb _ _ h) refl

pub walk-breaks : (n : ℕ) (bytes : List ℕ) (c : Cause) → Breaks bytes c → walk n bytes ≡ ([], bytes)
unfolding walk
walk-breaks zero bytes c b = refl
walk-breaks (suc n) bytes c b = rw (le-ltb _ _ b.long, b.none) refl

refuted : (b : Bool) → (b ≡ true → ⊥) → b ≡ false
refuted true h = absurd (h refl)
refuted false h = refl

-- a child of another type
pub not_of : (t : BoxType) (k : ChildBox) → IsNamed t → IsNamed k.0 → (k.0 ≡ t → ⊥) → is_of t k ≡ false
not_of t k named known other =
    refuted (eqb (code_of k.0) (code_of t))
    (λ e. other (sym known ∙ ap box_type (eqb-true (code_of k.0) (code_of t) e) ∙ named))
