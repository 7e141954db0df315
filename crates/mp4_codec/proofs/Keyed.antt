-- A map's values at each of a list of keys, when it is read and when it changes.
use Rattle.std.proofs.Common.{◌≡◌, ℕ, ◌+◌, ◌<◌, length, take, get_or, Bool, true, false, cond, ◌&&◌, ◌||◌, List, []}
use Rattle.std.proofs.Common.{◌∷◌, refl, sym, ◌∙◌, true≢false}
use Rattle.std.specs.Cmp.{IsEquivalence, both_ways, first_so, second_so}
use Rattle.std.specs.Cmp.Lexicographic.{pointwise}
use Rattle.std.specs.HashMap.{HashMap, get, keys, hash_map_eq, hash_map_len, IsUnique}
use Rattle.std.specs.HashMap.Eq.{lookup_congr, get_from_hash_map_eq, hash_map_eq_from_get}
use Rattle.std.specs.List.{list_any, count_by}
use Rattle.std.specs.Option.{is_some, option_eq}
use Rattle.std.specs.Set.{is_member, distinct_count}
use Rattle.std.specs.Prelude.{Option, None, Some}
use Rattle.std.proofs.lemmas.List.{length-map}
use Rattle.std.proofs.lemmas.List.Folds.{list_any_more}
use Rattle.std.proofs.lemmas.List.Sums.{sum_by-cons}
use Rattle.std.proofs.lemmas.Map.Made.{is_some-lookup, length-IsIntersection, IsDistinct-from_count}
use Rattle.mp4_codec.specs.KeyedItems.{held_in, held_at, with_item}

by_cases : {P : Type 0} (b : Bool) → (b ≡ true → P) → (b ≡ false → P) → P
by_cases true p q = p refl
by_cases false p q = q refl

by_test : {X : Type 0} (b : Bool) (x y w : X) → (b ≡ true → x ≡ w) → (b ≡ false → y ≡ w) → cond b x y ≡ w
by_test true x y w p q = p refl
by_test false x y w p q = q refl

-- one key more, or another value at a key
pub held_in-with_item : {K V S : Type 0} (eq : K → K → Bool) (m n : HashMap K V S) (keys : List K) (key : K)
    (value : V) → ((q : K) → get eq n q ≡ cond (eq key q) (Some value) (get eq m q))
    → held_in eq keys n ≡ with_item eq keys (held_in eq keys m) key value
unfolding with_item
held_in-with_item eq m n [] key value now = refl
held_in-with_item eq m n (k ∷ keys) key value now = λ i. now k i ∷ held_in-with_item eq m n keys key value now i

module _ {K V S : Type 0} {eq : K → K → Bool} where
  -- a listed key has its place
  pub held_at-held_in : IsEquivalence eq → (m : HashMap K V S) (keys : List K) (key : K)
      → list_any (eq key) keys ≡ true → held_at eq keys (held_in eq keys m) key ≡ get eq m key
  unfolding held_at
  held_at-held_in laws m [] key listed = absurd (true≢false (sym listed))
  held_at-held_in laws m (k ∷ keys) key listed =
      by_test (eq key k) (get eq m k) (held_at eq keys (held_in eq keys m) key) (get eq m key)
      (λ e. sym (lookup_congr eq laws.congr m.entries key k e))
      (λ e. held_at-held_in laws m keys key (rw e at listed))

  module _ (E : V → V → Bool) (laws : IsEquivalence eq) where
    alike : (m n : HashMap K V S) → ((q : K) → option_eq E (get eq m q) (get eq n q) ≡ true) → (keys : List K)
        → pointwise (option_eq E) (held_in eq keys m) (held_in eq keys n) ≡ true
    alike m n each [] = refl
    alike m n each (k ∷ keys) = λ i. each k i && alike m n each keys i

    alike_at : (m n : HashMap K V S) (keys : List K)
        → pointwise (option_eq E) (held_in eq keys m) (held_in eq keys n) ≡ true → (q : K)
        → list_any (eq q) keys ≡ true → option_eq E (get eq m q) (get eq n q) ≡ true
    alike_at m n [] same q listed = absurd (true≢false (sym listed))
    alike_at m n (k ∷ keys) same q listed =
        by_cases (eq q k)
        (λ e. (λ i. option_eq E (lookup_congr eq laws.congr m.entries q k e i)
        (lookup_congr eq laws.congr n.entries q k e i)) ∙ first_so _ _ same)
        (λ e. alike_at m n keys (second_so _ _ same) q (rw e at listed))

    -- maps are equal where they hold equal values at each of the listed keys
    pub hash_map_eq-pointwise : (m n : HashMap K V S) (keys : List K) → ((q : K) → list_any (eq q) keys ≡ true)
        → hash_map_eq eq E m n ≡ pointwise (option_eq E) (held_in eq keys m) (held_in eq keys n)
    hash_map_eq-pointwise m n keys listed =
        both_ways _ _
        (λ e. alike m n (get_from_hash_map_eq eq E laws m n e) keys)
        (λ e. hash_map_eq_from_get eq E m n (λ q. alike_at m n keys e q (listed q)))

-- ---- copies at the first keys of the list

-- the keys whose values are copied so far hold them, and the others nothing
abbrev pub copied_at : {K V : Type 0} → (K → K → Bool) → (K → Option V) → List K → K → Option V
copied_at eq f keys q = cond (list_any (eq q) keys) (f q) None

one_more : {X : Type 0} (b c : Bool) (v x : Option X) → (c ≡ true → v ≡ x)
    → cond c v (cond b x None) ≡ cond (b || c) x None
one_more true true v x e = e refl
one_more true false v x e = refl
one_more false true v x e = e refl
one_more false false v x e = refl

none_more : {X : Type 0} (b c : Bool) (x : Option X) → (c ≡ true → x ≡ None) → cond b x None ≡ cond (b || c) x None
none_more true c x e = refl
none_more false true x e = sym (e refl)
none_more false false x e = refl

module _ {K V S : Type 0} {eq : K → K → Bool} (laws : IsEquivalence eq) (items copies : HashMap K V S) (keys : List K)
    (i : ℕ) (key : K)
    (within : i < length keys) (here : key ≡ get_or keys i key)
    (before : (q : K) → get eq copies q ≡ copied_at eq (get eq items) (take i keys) q) where
  -- a value is copied
  pub copied_more : (later : HashMap K V S) (value : V) → Some value ≡ get eq items key
      → ((q : K) → get eq later q ≡ cond (eq key q) (Some value) (get eq copies q))
      → (q : K) → get eq later q ≡ copied_at eq (get eq items) (take (i + 1) keys) q
  copied_more later value found now q =
      let more = list_any_more (eq q) keys i key within in
      let same = one_more (list_any (eq q) (take i keys)) (eq q key) (Some value) (get eq items q)
      (λ e. found ∙ sym (lookup_congr eq laws.congr items.entries q key e)) in
      rw (now q, before q, more, ← here, laws.symm key q) same

  -- there is no value to copy
  pub none_copied : None ≡ get eq items key → (q : K)
      → get eq copies q ≡ copied_at eq (get eq items) (take (i + 1) keys) q
  none_copied found q =
      let more = list_any_more (eq q) keys i key within in
      let same = none_more (list_any (eq q) (take i keys)) (eq q key) (get eq items q)
      (λ e. lookup_congr eq laws.congr items.entries q key e ∙ sym found) in
      rw (before q, more, ← here) same

-- ---- how many values are held

held_count : {K V S : Type 0} (eq : K → K → Bool) (m : HashMap K V S) (ks : List K)
    → count_by is_some (held_in eq ks m) ≡ count_by (is_member eq (keys m)) ks
held_count eq m [] = refl
held_count eq m (k ∷ ks) =
    let held = sum_by-cons (λ x. cond (is_some x) 1 0) (get eq m k) (held_in eq ks m) in
    let listed = sum_by-cons (λ q. cond (is_member eq (keys m) q) 1 0) k ks in
    held ∙ (λ i. cond (is_some-lookup (eq k) m.entries i) 1 0 + held_count eq m ks i) ∙ sym listed

-- each entry of the map is held at one of the listed keys
pub hash_map_len-count : {K V S : Type 0} {eq : K → K → Bool} → IsEquivalence eq → (m : HashMap K V S) (ks : List K)
    → IsUnique eq m → distinct_count eq ks ≡ length ks → ((q : K) → is_member eq ks q ≡ true)
    → hash_map_len m ≡ count_by is_some (held_in eq ks m)
hash_map_len-count {K} {V} {S} {eq} laws m ks unique once listed =
    sym (length-map m.entries (λ e. e.0))
    ∙ length-IsIntersection laws ks (keys m) (keys m) (IsDistinct-from_count laws ks once) unique
    (λ q. rw (listed q) refl)
    ∙ sym (held_count eq m ks)
