-- Bytes in the order of a file are such extents alone.
use Rattle.std.proofs.Common.{◌≡◌, ◌∙◌, ◌⊎◌, inl, inr, ℕ, ◌+◌, ◌≤◌, ◌<◌, ◌&&◌, ◌||◌, Bool, true, false, nat_lt}
use Rattle.std.proofs.Common.{List, [], ◌∷◌, refl, sym, ap, subst, arith}
use Rattle.std.specs.Prelude.{not}
use Rattle.std.proofs.lemmas.Bool.{ltb-true, ltb-false, lt-ltb, le-ltb}
use Rattle.mp4_media.specs.FileBoxes.{OpenedFile}
use Rattle.mp4_remux.specs.Data.{AreApartFrom, AreDataOf, has_byte, have_byte}
use Rattle.mp4_remux.specs.declared.data.Extent.{Extent}

-- a byte of an extent
pub in_extent : (byte : ℕ) (e : Extent) → e.place ≤ byte → byte < e.end → has_byte byte e ≡ true
in_extent byte e from to = rw (le-ltb byte e.place from, lt-ltb byte e.end to) refl

pub of_extent : (byte : ℕ) (e : Extent) → has_byte byte e ≡ true → (e.place ≤ byte) × (byte < e.end)
of_extent byte e has = by (nat_lt byte e.place) (nat_lt byte e.end) refl refl has
  where
    by : (p q : Bool) → nat_lt byte e.place ≡ p → nat_lt byte e.end ≡ q → (not p && q) ≡ true
        → (e.place ≤ byte) × (byte < e.end)
    by true q from to is = absurd cc
    by false false from to is = absurd cc
    by false true from to is = (ltb-false byte e.place from, ltb-true byte e.end to)

pub either_true : (a b : Bool) → (a || b) ≡ true → (a ≡ true) ⊎ (b ≡ true)
either_true true b is = inl refl
either_true false b is = inr is

pub or_left : (a b : Bool) → a ≡ true → (a || b) ≡ true
or_left a b is = rw is refl

pub or_right : (a b : Bool) → b ≡ true → (a || b) ≡ true
or_right true b is = refl
or_right false b is = is

-- no byte is before the first
lowest : (place byte : ℕ) (es : List Extent) → AreApartFrom place es → have_byte byte es ≡ true → place ≤ byte
unfolding AreApartFrom
lowest place byte [] apart has = absurd cc
lowest place byte (e ∷ es) apart has =
    by (λ other. lowest (e.end + 1) byte es apart.1.1 other)
    (either_true (has_byte byte e) (have_byte byte es) has)
  where
    by : (have_byte byte es ≡ true → e.end + 1 ≤ byte) → (has_byte byte e ≡ true) ⊎ (have_byte byte es ≡ true)
        → place ≤ byte
    by rest (inl own) = omega (arith, of_extent byte e own, apart.0)
    by rest (inr other) = omega (arith, rest other, apart.0, apart.1.0)

-- the same bytes are
abbrev HaveAll : List Extent → List Extent → Type 0
HaveAll xs ys = (byte : ℕ) → have_byte byte xs ≡ true → have_byte byte ys ≡ true

first_byte : (place : ℕ) (x : Extent) (xs : List Extent) → AreApartFrom place (x ∷ xs)
    → have_byte x.place (x ∷ xs) ≡ true
unfolding AreApartFrom
first_byte place x xs apart =
    or_left (has_byte x.place x) (have_byte x.place xs) (in_extent x.place x (omega arith) apart.1.0)

not_before : (place : ℕ) (x y : Extent) (xs ys : List Extent) → AreApartFrom place (x ∷ xs)
    → AreApartFrom place (y ∷ ys) → HaveAll (x ∷ xs) (y ∷ ys) → y.place ≤ x.place
unfolding AreApartFrom
not_before place x y xs ys apart other all =
    lowest y.place x.place (y ∷ ys) (omega arith, other.1) (all x.place (first_byte place x xs apart))

-- the byte after an extent isn't there
no_byte : (place : ℕ) (x : Extent) (xs : List Extent) → AreApartFrom place (x ∷ xs)
    → have_byte x.end (x ∷ xs) ≡ true → ⊥
unfolding AreApartFrom
no_byte place x xs apart has = by (either_true (has_byte x.end x) (have_byte x.end xs) has)
  where
    by : (has_byte x.end x ≡ true) ⊎ (have_byte x.end xs ≡ true) → ⊥
    by (inl own) = omega (arith, of_extent x.end x own)
    by (inr other) = omega (arith, lowest (x.end + 1) x.end xs apart.1.1 other)

not_after : (place : ℕ) (x y : Extent) (xs ys : List Extent) → AreApartFrom place (x ∷ xs)
    → AreApartFrom place (y ∷ ys) → x.place ≡ y.place → HaveAll (y ∷ ys) (x ∷ xs) → y.end ≤ x.end
unfolding AreApartFrom
not_after place x y xs ys apart other same all = by (nat_lt x.end y.end) refl
  where
    by : (b : Bool) → nat_lt x.end y.end ≡ b → y.end ≤ x.end
    by false le = ltb-false x.end y.end le
    by true lt =
        absurd (no_byte place x xs apart (all x.end (or_left (has_byte x.end y) (have_byte x.end ys)
        (in_extent x.end y (omega (arith, same, apart.1.0)) (ltb-true x.end y.end lt)))))

same_extent : (x y : Extent) → x.place ≡ y.place → x.end ≡ y.end → x ≡ y
same_extent x y places ends =
    let one : x ≡ record { place = y.place; end = x.end } =
    ap (λ n. record { place = n; end = x.end }) places in
    let two : record { place = y.place; end = x.end } ≡ y =
    ap (λ n. record { place = y.place; end = n }) ends in
    one ∙ two

-- those of the others after the first
others_too : (x y : Extent) (xs ys : List Extent) → AreApartFrom (x.end + 1) xs → x.end ≡ y.end
    → HaveAll (x ∷ xs) (y ∷ ys) → HaveAll xs ys
others_too x y xs ys apart same all byte has =
    by (either_true (has_byte byte y) (have_byte byte ys)
    (all byte (or_right (has_byte byte x) (have_byte byte xs) has)))
  where
    by : (has_byte byte y ≡ true) ⊎ (have_byte byte ys ≡ true) → have_byte byte ys ≡ true
    by (inl own) =
        absurd (omega (arith, of_extent byte y own, lowest (x.end + 1) byte xs apart has, same))
    by (inr other) = other

pub same_extents : (place : ℕ) (xs ys : List Extent) → AreApartFrom place xs → AreApartFrom place ys → HaveAll xs ys
    → HaveAll ys xs → xs ≡ ys
unfolding AreApartFrom
same_extents place [] [] apart other all back = refl
same_extents place [] (y ∷ ys) apart other all back =
    let no = back y.place (first_byte place y ys other) in absurd cc
same_extents place (x ∷ xs) [] apart other all back =
    let no = all x.place (first_byte place x xs apart) in absurd cc
same_extents place (x ∷ xs) (y ∷ ys) apart other all back =
    let places : x.place ≡ y.place = omega (
      arith,
      not_before place x y xs ys apart other all,
      not_before place y x ys xs other apart back,
    ) in
    let ends : x.end ≡ y.end = omega (
      arith,
      not_after place x y xs ys apart other places back,
      not_after place y x ys xs other apart (sym places) all,
    ) in
    let rest = same_extents (x.end + 1) xs ys apart.1.1
    (subst (λ n. AreApartFrom (n + 1) ys) (sym ends) other.1.1)
    (others_too x y xs ys apart.1.1 ends all) (others_too y x ys xs other.1.1 (sym ends) back) in
    ap (λ (e : Extent). e ∷ xs) (same_extent x y places ends) ∙ ap (λ (es : List Extent). y ∷ es) rest

-- the data of the same tracks are the same extents
pub data_once : (opened : OpenedFile) (ids : List ℕ) (xs ys : List Extent) → AreDataOf opened ids xs
    → AreDataOf opened ids ys → xs ≡ ys
data_once opened ids xs ys one two =
    same_extents 0 xs ys one.apart two.apart (λ byte has. two.all byte (one.only byte has))
    (λ byte has. one.all byte (two.only byte has))
