-- Parts that are put one after the other, as an iterator gives them.
use Rattle.std.proofs.Common.{◌≡◌, ◌∙◌, ℕ, suc, List, [], ◌∷◌, ◌++◌, Option, Some, None, sym, ap, length}
use Rattle.std.proofs.Common.{get_or, drop, flat_map}
use Rattle.std.proofs.KnownBytes.{Appends-trans}
use Rattle.std.proofs.Math.Seq.{split_at}
use Rattle.std.proofs.lemmas.Iterator.{YieldsList}
use Rattle.std.proofs.lemmas.Iterator.Consumers.{YieldsList-end, YieldsList-so_far, YieldsList-turn}
use Rattle.std.proofs.lemmas.List.{append-nil, map-append}
use Rattle.std.proofs.lemmas.List.Concat.{flat_map-append}
use Rattle.std.specs.Iterator.{Yields}
use Rattle.std.specs.Io.KnownBytes.{Appends}
use Rattle.std.specs.Prelude.{map}
use Rattle.mp4_extract.specs.Extracting.{HasFront}
use Rattle.mp4_extract.proofs.Sinks.{first_front, second_front}

module _ {S A B : Type 0} {steps : S → Option A → S → Type 0} {v : A → B} {s : S} {all : List B}
    (piece : B → List ℕ) (old mid : Option (List ℕ)) (xs : List A) (road : YieldsList steps v s all) (t : S)
    (y : Yields steps s xs t) (so_far : Appends old mid (flat_map piece (map v xs))) where
  -- after the last all are there
  pub parts_done : (r : Option A) (u : S) → r ≡ None → steps t r u → Appends old mid (flat_map piece all)
  parts_done r u is step = rw (sym (YieldsList-end road xs t y r u is step).0) so_far

  -- a front of one after others is a front of all
  pub parts_stop : (r : Option A) (u : S) (x : A) → r ≡ Some x → steps t r u → (new : Option (List ℕ))
      → HasFront (piece (v x)) mid new → HasFront (flat_map piece all) old new
  parts_stop r u x is step new front =
      let turn = YieldsList-turn road xs t y r u x is step in
      let rest = drop (suc (length xs)) all in
      let cut : all ≡ map v xs ++ v x ∷ rest =
      split_at all (length xs) (v x) turn.0
      ∙ ap (λ (l : List B). l ++ get_or all (length xs) (v x) ∷ rest) (sym (YieldsList-so_far road xs t y))
      ∙ ap (λ (z : B). map v xs ++ z ∷ rest) (sym turn.1) in
      rw (cut, flat_map-append piece (map v xs) (v x ∷ rest))
      (second_front (flat_map piece (map v xs)) (piece (v x) ++ flat_map piece rest) old mid new so_far
      (first_front (piece (v x)) (flat_map piece rest) mid new front))

-- one more is there
pub parts_more : {A B : Type 0} (v : A → B) (piece : B → List ℕ) (old mid new : Option (List ℕ)) (xs : List A) (x : A)
    → Appends old mid (flat_map piece (map v xs)) → Appends mid new (piece (v x))
    → Appends old new (flat_map piece (map v (xs ++ x ∷ [])))
parts_more v piece old mid new xs x so_far more =
    let whole : flat_map piece (map v (xs ++ x ∷ [])) ≡ flat_map piece (map v xs) ++ piece (v x) =
    ap (flat_map piece) (map-append v xs (x ∷ []))
    ∙ flat_map-append piece (map v xs) (v x ∷ [])
    ∙ ap (λ (l : List ℕ). flat_map piece (map v xs) ++ l) (append-nil (piece (v x))) in
    rw whole (Appends-trans old mid new (flat_map piece (map v xs)) (piece (v x)) so_far more)
