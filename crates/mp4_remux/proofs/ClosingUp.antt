-- The data of samples, and where it is when it is closed up.
use Rattle.std.proofs.Common.{◌≡◌, ◌∙◌, ℕ, ◌+◌, ◌<◌, ◌≤◌, ◌&&◌, ◌||◌, max, nat_lt}
use Rattle.std.proofs.Common.{Bool, true, false, List, [], ◌∷◌, ◌++◌, length, take, refl, sym, ap, subst, arith, Some}
use Rattle.std.specs.Prelude.{not, slice_index_or}
use Rattle.std.specs.List.{All}
use Rattle.std.proofs.lemmas.Bool.{ltb-true, ltb-false}
use Rattle.std.specs.List.Sorted.{IsNonDecreasingBy}
use Rattle.std.proofs.lemmas.List.{get_or-take, length-take, take_more}
use Rattle.std.proofs.lemmas.List.Elements.{All-pop}
use Rattle.mp4_remux.proofs.Numbered.{at_index, got}
use Rattle.std.proofs.lemmas.List.Folds.{list_any-append}
use Rattle.mp4_remux.specs.declared.data.Extent.{Extent}
use Rattle.mp4_remux.specs.Data.{AreApartFrom, BeginsBy, IsWithin, has_byte, have_byte}

-- BYTES OF EXTENTS THAT TOUCH

abbrev inside : ℕ → ℕ → ℕ → Bool
inside byte from to = not (nat_lt byte from) && nat_lt byte to

-- the bytes of two extents, of which the second begins within the first or after its last byte
touching : (byte a b c d : ℕ) → a ≤ c → c ≤ b → inside byte a (max b d) ≡ (inside byte a b || inside byte c d)
touching byte a b c d begins within =
    by (nat_lt byte a) (nat_lt byte b) (nat_lt byte c) (nat_lt byte d) (nat_lt byte (max b d)) refl refl refl refl refl
  where
    by : (p q r s t : Bool) → nat_lt byte a ≡ p → nat_lt byte b ≡ q → nat_lt byte c ≡ r → nat_lt byte d ≡ s
        → nat_lt byte (max b d) ≡ t → (not p && t) ≡ ((not p && q) || (not r && s))
    by true q true s t pa pb pc pd pm = refl
    by true q false true t pa pb pc pd pm =
        absurd (omega (arith, ltb-true byte a pa, ltb-false byte c pc, begins))
    by true q false false t pa pb pc pd pm = refl
    by false true r s true pa pb pc pd pm = refl
    by false true r s false pa pb pc pd pm =
        absurd (omega (arith, ltb-true byte b pb, ltb-false byte (max b d) pm))
    by false false true s t pa pb pc pd pm =
        absurd (omega (arith, ltb-false byte b pb, ltb-true byte c pc, within))
    by false false false true true pa pb pc pd pm = refl
    by false false false true false pa pb pc pd pm =
        absurd (omega (arith, ltb-true byte d pd, ltb-false byte (max b d) pm))
    by false false false false true pa pb pc pd pm =
        absurd (omega (arith, ltb-false byte b pb, ltb-false byte d pd, ltb-true byte (max b d) pm))
    by false false false false false pa pb pc pd pm = refl

either : (b p q r : Bool) → r ≡ (p || q) → (b || (r || false)) ≡ ((b || (p || false)) || (q || false))
either true p q r is = refl
either false true q r is = rw is refl
either false false true r is = rw is refl
either false false false r is = rw is refl

-- two that touch have the bytes of one
pub joined_bytes : (byte : ℕ) (before : List Extent) (last next both : Extent) → last.place ≤ next.place
    → next.place ≤ last.end → both.place ≡ last.place → both.end ≡ max last.end next.end
    → have_byte byte (before ++ both ∷ []) ≡ have_byte byte ((before ++ last ∷ []) ++ next ∷ [])
joined_bytes byte before last next both begins within from to =
    let one : has_byte byte both ≡ (has_byte byte last || has_byte byte next) =
    rw (from, to) (touching byte last.place last.end next.place next.end begins within) in
    list_any-append (has_byte byte) before (both ∷ [])
    ∙ either (have_byte byte before) (has_byte byte last) (has_byte byte next) (has_byte byte both) one
    ∙ ap (λ (b : Bool). b || (has_byte byte next || false))
    (sym (list_any-append (has_byte byte) before (last ∷ [])))
    ∙ sym (list_any-append (has_byte byte) (before ++ last ∷ []) (next ∷ []))

-- EXTENTS THAT ARE APART

-- the place after the byte after all of them
pub after_all : ℕ → List Extent → ℕ
after_all place [] = place
after_all place (e ∷ es) = after_all (e.end + 1) es

pub after_last : (place : ℕ) (es : List Extent) (e : Extent) → after_all place (es ++ e ∷ []) ≡ e.end + 1
unfolding after_all
after_last place [] e = refl
after_last place (d ∷ es) e = after_last (d.end + 1) es e

pub apart_more : (place : ℕ) (es : List Extent) (e : Extent) → AreApartFrom place es → after_all place es ≤ e.place
    → e.place < e.end → AreApartFrom place (es ++ e ∷ [])
unfolding AreApartFrom after_all
apart_more place [] e apart after some = (after, (some, tt))
apart_more place (d ∷ es) e apart after some = (apart.0, (apart.1.0, apart_more (d.end + 1) es e apart.1.1 after some))

-- those before the last, and the last
pub record IsLast (place : ℕ) (es : List Extent) (e : Extent) : Type 0 where
  pub front : AreApartFrom place es
  pub after : after_all place es ≤ e.place
  pub some : e.place < e.end

pub is_last : (place : ℕ) (es : List Extent) (e : Extent) → AreApartFrom place (es ++ e ∷ []) → IsLast place es e
unfolding AreApartFrom after_all
is_last place [] e apart = record { front = tt; after = apart.0; some = apart.1.0 }
is_last place (d ∷ es) e apart =
    let last = is_last (d.end + 1) es e apart.1.1 in
    record { front = (apart.0, (apart.1.0, last.front)); after = last.after; some = last.some }

-- the last is longer
pub apart_longer : (place : ℕ) (before : List Extent) (last both : Extent) → AreApartFrom place (before ++ last ∷ [])
    → both.place ≡ last.place → last.end ≤ both.end → AreApartFrom place (before ++ both ∷ [])
apart_longer place before last both apart from longer =
    let is = is_last place before last apart in
    apart_more place before both is.front (omega (arith, is.after, from)) (omega (arith, is.some, from, longer))

-- one more after the last
pub apart_next : (place : ℕ) (before : List Extent) (last next : Extent) → AreApartFrom place (before ++ last ∷ [])
    → last.end < next.place → next.place < next.end → AreApartFrom place ((before ++ last ∷ []) ++ next ∷ [])
apart_next place before last next apart after some =
    apart_more place (before ++ last ∷ []) next apart (omega (arith, after_last place before last, after)) some

pub apart_first : (next : Extent) (es : List Extent) → es ≡ [] → next.place < next.end
    → AreApartFrom 0 (es ++ next ∷ [])
unfolding AreApartFrom
apart_first next es none some = rw none (omega arith, (some, tt))

-- the last begins there
pub last_begins : (place : ℕ) (all before : List Extent) (last : Extent) → all ≡ before ++ last ∷ []
    → All (BeginsBy place) all → last.place ≤ place
last_begins place all before last is begins = (All-pop (BeginsBy place) all before (Some last) is begins).1

-- the same list, with one more after its last
pub apart_added : (all before now next : List Extent) (last new : Extent) → all ≡ before ++ last ∷ []
    → now ≡ before ++ last ∷ [] → next ≡ now ++ new ∷ [] → AreApartFrom 0 all → All (BeginsBy new.place) all
    → (last.place ≤ new.place → last.end < new.place) → new.place < new.end → AreApartFrom 0 next
apart_added all before now next last new is again more apart begins after some =
    subst (λ (xs : List Extent). AreApartFrom 0 xs) (ap (λ (xs : List Extent). xs ++ new ∷ []) (sym again) ∙ sym more)
    (apart_next 0 before last new (subst (λ (xs : List Extent). AreApartFrom 0 xs) is apart)
    (after (last_begins new.place all before last is begins)) some)

-- JOINED, ONE AFTER THE OTHER

-- those before one, and it
taken : {X : Type 0} (P : X → Type 0) (es : List X) (i : ℕ) (d : X) → i < length es → All P (take (i + 1) es)
    → All P (take i es) × P (slice_index_or es i d)
taken {X} P es i d lt all =
    let both = All-pop P (take (i + 1) es) (take i es) (Some (slice_index_or es i d)) (take_more es i d lt) all in
    (both.0, both.1)

module _ (es : List Extent) (i : ℕ) (d : Extent) (lt : i < length es) (old new : List Extent) where
  abbrev one : Extent
  one = slice_index_or es i d

  pub bytes_step : (byte : ℕ) → have_byte byte old ≡ have_byte byte (take i es)
      → have_byte byte new ≡ have_byte byte (old ++ one ∷ [])
      → have_byte byte new ≡ have_byte byte (take (i + 1) es)
  bytes_step byte upto more =
      more ∙ list_any-append (has_byte byte) old (one ∷ [])
      ∙ ap (λ (b : Bool). b || (has_byte byte one || false)) upto
      ∙ sym (list_any-append (has_byte byte) (take i es) (one ∷ []))
      ∙ ap (have_byte byte) (sym (take_more es i d lt))

  pub within_step : (len : ℕ) → (All (IsWithin len) (take i es) → All (IsWithin len) old)
      → (All (IsWithin len) old → IsWithin len one → All (IsWithin len) new)
      → All (IsWithin len) (take (i + 1) es) → All (IsWithin len) new
  within_step len upto more all =
      let both = taken (IsWithin len) es i d lt all in
      more (upto both.0) both.1

  pub begin_step : (place : ℕ) → (All (BeginsBy place) (take i es) → All (BeginsBy place) old)
      → (All (BeginsBy place) old → one.place ≤ place → All (BeginsBy place) new)
      → All (BeginsBy place) (take (i + 1) es) → All (BeginsBy place) new
  begin_step place upto more all =
      let both = taken (BeginsBy place) es i d lt all in
      more (upto both.0) both.1

  -- those before one begin before it
  begins_before : IsNonDecreasingBy (λ (e : Extent). e.place) es → All (BeginsBy one.place) (take i es)
  begins_before up = λ k e short.
      let less : k < i = omega (arith, short, length-take i es, lt) in
      let here : slice_index_or (take i es) k e ≡ slice_index_or es k e = get_or-take i es k e less in
      let same : slice_index_or es i e ≡ one = got es i one e (at_index es i d lt) in
      let le = up k i e (omega (arith, less)) lt in
      omega (arith, ap (λ (x : Extent). x.place) here, ap (λ (x : Extent). x.place) same, le)

  pub apart_step : (len : ℕ) → IsNonDecreasingBy (λ (e : Extent). e.place) es
      → (All (IsWithin len) (take i es) → AreApartFrom 0 old)
      → (All (BeginsBy one.place) (take i es) → All (BeginsBy one.place) old)
      → (AreApartFrom 0 old → All (BeginsBy one.place) old → one.place < one.end → AreApartFrom 0 new)
      → All (IsWithin len) (take (i + 1) es) → AreApartFrom 0 new
  apart_step len up upto begin more all =
      let both = taken (IsWithin len) es i d lt all in
      more (upto both.0) (begin (begins_before up)) both.1.0

pub none_apart : (es : List Extent) → es ≡ [] → AreApartFrom 0 es
unfolding AreApartFrom
none_apart es none = rw none tt
