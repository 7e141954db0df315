-- What is held after a change, and the laws of equality.
use Rattle.std.specs.Prelude.{◌≡◌, suc, Bool, true, false, cond, List, [], ◌∷◌, length, Option, None, Some, refl}
use Rattle.std.proofs.Common.{sym, ◌∙◌, ap, true≢false}
use Rattle.std.specs.Cmp.{IsEquivalence, IsPartialEquivalence}
use Rattle.std.specs.Set.{is_member}
use Rattle.std.specs.Option.{option_eq}
use Rattle.mp4_codec.specs.KeyedItems.{no_items, held_at, with_item}

module _ {V : Type 0} {E : V → V → Bool} (per : IsPartialEquivalence E) where
  flips : (p q : Option V) → option_eq E p q ≡ option_eq E q p
  flips None None = refl
  flips None (Some y) = refl
  flips (Some x) None = refl
  flips (Some x) (Some y) = per.symm x y

  chains : (p q r : Option V) → option_eq E p q ≡ true → option_eq E q r ≡ true → option_eq E p r ≡ true
  chains None None r h g = g
  chains None (Some y) r h g = absurd (true≢false (sym h))
  chains (Some x) None r h g = absurd (true≢false (sym h))
  chains (Some x) (Some y) None h g = g
  chains (Some x) (Some y) (Some z) h g = per.trans x y z h g

  pub options_per : IsPartialEquivalence (option_eq E)
  options_per = record { symm = flips; trans = chains }

-- nothing is held by nothing
pub held_at-no_items : {K V : Type 0} (eq : K → K → Bool) (keys : List K) (key : K)
    → held_at {V = V} eq keys (no_items keys) key ≡ None
unfolding held_at
held_at-no_items eq [] key = refl
held_at-no_items {K} {V} eq (k ∷ keys) key = same (eq key k) (held_at-no_items {V = V} eq keys key)
  where
    same : (b : Bool) {x : Option V} → x ≡ None → cond b None x ≡ None
    same true e = refl
    same false e = e

-- at the key the value is held, and all other keys hold what they held
pub held_at-with_item : {K V : Type 0} {eq : K → K → Bool} → IsEquivalence eq
    → (keys : List K) (held : List (Option V)) (key : K) (value : V) (q : K)
    → length held ≡ length keys → is_member eq keys q ≡ true
    → held_at eq keys (with_item eq keys held key value) q ≡ cond (eq key q) (Some value) (held_at eq keys held q)
unfolding held_at with_item
held_at-with_item laws [] held key value q long listed = absurd (true≢false (sym listed))
held_at-with_item laws (k ∷ keys) [] key value q long listed = cc
held_at-with_item {K} {V} {eq} laws (k ∷ keys) (x ∷ held) key value q long listed =
    at_key (eq q k) refl (λ later. held_at-with_item laws keys held key value q (cc) later)
  where
    old : Option V
    old = held_at eq keys held q

    new : Option V
    new = held_at eq keys (with_item eq keys held key value) q

    at_key : (b : Bool) → eq q k ≡ b → (is_member eq keys q ≡ true → new ≡ cond (eq key q) (Some value) old)
        → cond b (cond (eq key k) (Some value) x) new ≡ cond (eq key q) (Some value) (cond b x old)
    at_key true e rest =
        ap (λ t. cond t (Some value) x) (laws.symm key k ∙ sym (laws.congr q k key e) ∙ laws.symm q key)
    at_key false e rest = rest (rw e at listed)

pub length-with_item : {K V : Type 0} (eq : K → K → Bool) (keys : List K) (held : List (Option V)) (key : K)
    (value : V) → length held ≡ length keys → length (with_item eq keys held key value) ≡ length keys
unfolding with_item
length-with_item eq [] held key value long = refl
length-with_item eq (k ∷ keys) [] key value long = long
length-with_item eq (k ∷ keys) (x ∷ held) key value long = ap suc (length-with_item eq keys held key value cc)
