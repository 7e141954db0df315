-- What a map holds at keys of a type with few values, read off a list of all of them.
use Rattle.std.specs.Prelude.{Bool, cond, List, [], ◌∷◌, map, Option, None, Some}
use Rattle.std.specs.HashMap.{HashMap, get}

-- what the map holds at each of the keys
abbrev pub held_in : {K V S : Type 0} → (K → K → Bool) → List K → HashMap K V S → List (Option V)
held_in eq keys m = map (λ k. get eq m k) keys

-- nothing at any of the keys
abbrev pub no_items : {K V : Type 0} → List K → List (Option V)
no_items keys = map (λ _. None) keys

-- what is held at the key, where held says it for each of the keys
unfoldable pub held_at : {K V : Type 0} → (K → K → Bool) → List K → List (Option V) → K → Option V
held_at eq [] held key = None
held_at eq (k ∷ keys) [] key = None
held_at eq (k ∷ keys) (x ∷ held) key = cond (eq key k) x (held_at eq keys held key)

-- the same, with the value held at the key
unfoldable pub with_item : {K V : Type 0} → (K → K → Bool) → List K → List (Option V) → K → V → List (Option V)
with_item eq [] held key value = []
with_item eq (k ∷ keys) [] key value = []
with_item eq (k ∷ keys) (x ∷ held) key value = cond (eq key k) (Some value) x ∷ with_item eq keys held key value
