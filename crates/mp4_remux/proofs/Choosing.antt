-- The ids of the tracks that are kept.
use Rattle.std.proofs.Common.{◌≡◌, ◌∙◌, ℕ, ◌+◌, ◌<◌, ◌≤◌, ◌==◌, ◌++◌, ◌∷◌, [], true, false, List, length}
use Rattle.std.proofs.Common.{drop, slice_index_or, sym, ap, refl, subst, arith, append_assoc, Bool, nat_lt, inl, inr}
use Rattle.std.proofs.Common.{◌||◌, eq-eqb}
use Rattle.std.proofs.Common.{Option, None, Some, Result, Err}
use Rattle.std.proofs.lemmas.Bool.{ltb-false, ltb-true}
use Rattle.std.proofs.lemmas.List.{append-nil}
use Rattle.std.specs.List.{list_any}
use Rattle.std.specs.Prelude.{slice_get}
use Rattle.mp4_codec.specs.Cause.{trak_not_found}
use Rattle.mp4_codec.specs.declared.error.Error.{Error}
use Rattle.mp4_media.specs.FileBoxes.{OpenedFile}
use Rattle.mp4_remux.specs.declared.error.RemuxError.{RemuxError}
use Rattle.mp4_remux.specs.declared.error.RemuxError.TheVariants.{Mp4}
use Rattle.mp4_remux.specs.Errors.{IsNoFault, SaysMissing}
use Rattle.mp4_remux.specs.Reads.{AreThere, IsMissing, SaysFirst}
use Rattle.mp4_remux.specs.Remuxed.{IsOnlyFile, ids_of, kept_of}
use Rattle.mp4_remux.specs.Why.{AreKept}
use Rattle.mp4_remux.proofs.Numbered.{drop_next, drop_all}

module _ (ids all kept : List ℕ) (i x d : ℕ) (lt : i < length all) (is : x ≡ slice_index_or all i d)
    (e : kept ++ kept_of ids (drop i all) ≡ kept_of ids all) where
  next : drop i all ≡ x ∷ drop (i + 1) all
  next = drop_next all i (i + 1) d lt (omega arith) ∙ ap (λ (y : ℕ). y ∷ drop (i + 1) all) (sym is)

  -- one more is kept
  pub kept_more : list_any (λ y. y == x) ids ≡ true
      → (kept ++ x ∷ []) ++ kept_of ids (drop (i + 1) all) ≡ kept_of ids all
  unfolding kept_of
  kept_more there =
      append_assoc kept (x ∷ []) (kept_of ids (drop (i + 1) all))
      ∙ ap (λ (ys : List ℕ). kept ++ ys) (sym (ap (λ (ys : List ℕ). kept_of ids ys) next ∙ rw there refl)) ∙ e

  -- one isn't kept
  pub kept_less : list_any (λ y. y == x) ids ≡ false → kept ++ kept_of ids (drop (i + 1) all) ≡ kept_of ids all
  unfolding kept_of
  kept_less none =
      ap (λ (ys : List ℕ). kept ++ ys) (sym (ap (λ (ys : List ℕ). kept_of ids ys) next ∙ rw none refl)) ∙ e

-- all were looked at
pub kept_all : (ids all kept : List ℕ) (i : ℕ) → length all ≤ i
    → kept ++ kept_of ids (drop i all) ≡ kept_of ids all → kept ≡ kept_of ids all
unfolding kept_of
kept_all ids all kept i le e =
    sym (append-nil kept) ∙ ap (λ (ys : List ℕ). kept ++ ys) (sym (ap (λ (ys : List ℕ). kept_of ids ys)
    (drop_all all i le))) ∙ e

-- all of them are kept
all_kept : (ids ys : List ℕ)
    → ((x : ℕ) → list_any (λ y. y == x) ys ≡ true → list_any (λ y. y == x) ids ≡ true) → kept_of ids ys ≡ ys
unfolding kept_of
all_kept ids [] each = refl
all_kept ids (y ∷ ys) each =
    let this : list_any (λ z. z == y) (y ∷ ys) ≡ true = rw (eq-eqb y y refl) refl in
    let kept = each y this in
    rw kept (ap (λ (zs : List ℕ). y ∷ zs) (all_kept ids ys (λ x is. each x (by x is (y == x)))))
  where
    by : (x : ℕ) → list_any (λ z. z == x) ys ≡ true → (b : Bool) → b || list_any (λ z. z == x) ys ≡ true
    by x is true = refl
    by x is false = is

-- all tracks of a movie are some of them
pub are_all : (movie : OpenedFile) (ids : List ℕ) → ids ≡ ids_of movie.moov → AreKept movie ids
are_all movie ids is = (
  ids_of movie.moov,
  is ∙ sym (all_kept (ids_of movie.moov) (ids_of movie.moov) (λ x among. among)),
)

-- IDS THAT AREN'T THERE

-- of the first there is one
first_alone : (o : OpenedFile) (ids : List ℕ) (id other i j : ℕ) → IsMissing o ids id i → IsMissing o ids other j
    → id ≡ other
first_alone o ids id other i j one two = by (nat_lt i j) refl (nat_lt j i) refl
  where
    by : (before : Bool) → nat_lt i j ≡ before → (after : Bool) → nat_lt j i ≡ after → id ≡ other
    by true lt after is = let t = two.first id i (ltb-true i j lt) one.there in
        let no = one.none in let yes = t.1 in absurd cc
    by false ge true lt = let t = one.first other j (ltb-true j i lt) two.there in
        let no = two.none in let yes = t.1 in absurd cc
    by false ge false le =
        let same : i ≡ j = omega (arith, ltb-false i j ge, ltb-false j i le) in
        let there : slice_get ids j ≡ Some id = subst (λ n. slice_get ids n ≡ Some id) same one.there in
        let also = two.there in cc

-- a file that isn't opened, for memory or by its source
pub missing_unopened : {X : Type 0} (known : Option (List ℕ)) (can_refuse : Bool) (ids : List ℕ) (e : RemuxError)
    (result : Result X RemuxError) → result ≡ Err e → IsNoFault known can_refuse e
    → SaysMissing known can_refuse ids result
missing_unopened None can_refuse ids e result is refused = tt
missing_unopened (Some xs) can_refuse ids e result is refused =
    λ o id i file missing. rw is (refused o file (trak_not_found id))

-- a refusal for the first id that isn't there, or for memory
pub missing_said : {X : Type 0} (known : Option (List ℕ)) (can_refuse : Bool) (opened : OpenedFile) (ids : List ℕ)
    (e : Error) (result : Result X RemuxError) → result ≡ Err (Mp4 e) → IsOnlyFile known opened
    → SaysFirst opened ids e → SaysMissing known can_refuse ids result
missing_said None can_refuse opened ids e result is only says = tt
missing_said (Some xs) can_refuse opened ids e result is only (inl none) = λ o id i file missing. rw is (inl none)
missing_said (Some xs) can_refuse opened ids e result is only (inr says) = λ o id i file missing.
    let m = subst (λ (f : OpenedFile). IsMissing f ids id i) (sym (only o file)) missing in
    let same = first_alone opened ids id says.0 i says.1 m says.2.0 in
    rw is (inr (ap trak_not_found same ∙ says.2.1))

-- where all are there, none is missing
pub none_missing : {X : Type 0} (known : Option (List ℕ)) (can_refuse : Bool) (opened : OpenedFile) (ids : List ℕ)
    (result : Result X RemuxError) → IsOnlyFile known opened → AreThere opened ids
    → SaysMissing known can_refuse ids result
none_missing None can_refuse opened ids result only there = tt
none_missing (Some xs) can_refuse opened ids result only there = λ o id i file missing.
    let m = subst (λ (f : OpenedFile). IsMissing f ids id i) (sym (only o file)) missing in
    let t = there id i m.there in
    let no = m.none in let yes = t.1 in absurd cc
