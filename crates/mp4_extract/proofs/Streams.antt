-- Byte streams of units that are written one after the other.
use Rattle.std.proofs.Common.{◌≡◌, ℕ, ◌+◌, ◌<◌, ◌≤◌, Bool, true, false, List, [], ◌∷◌, ◌++◌, refl, sym, ◌∙◌, ap}
use Rattle.std.proofs.Common.{append_assoc, map, length, take, get_or, not, arith}
use Rattle.std.specs.Prelude.{◌&&◌, nat_le, nat_lt}
use Rattle.std.proofs.lemmas.Bool.{leb-true, ltb-true}
use Rattle.std.proofs.lemmas.List.Elements.{filter-append}
use Rattle.std.proofs.lemmas.List.{append-nil, take_more, map-append}
use Rattle.mp4_entry.specs.declared.avcc.NalUnit.{NalUnit}
use Rattle.mp4_codec.specs.Bytes.{Appends}
use Rattle.mp4_extract.specs.declared.coding.VideoCoding.{VideoCoding}
use Rattle.mp4_extract.specs.NalUnits.{kinds_before, kinds_below}
use Rattle.mp4_extract.specs.ByteStream.{coded_unit, byte_stream, is_between, is_none, kinds_after, next_units}
use Rattle.mp4_extract.specs.ByteStream.{sets_between, units_if, with_sets}

-- how many kinds of parameter sets are there after these units, when so many were before them
unfoldable pub kinds_of : VideoCoding → ℕ → List (List ℕ) → ℕ
kinds_of coding kinds [] = kinds
kinds_of coding kinds (u ∷ us) = kinds_of coding (kinds_after coding kinds u) us

pub none-append : (xs ys : List (List ℕ)) → is_none (xs ++ ys) ≡ (is_none xs && is_none ys)
none-append [] ys = refl
none-append (x ∷ xs) ys = refl

pub stream-append : (coding : VideoCoding) (is_first : Bool) (xs ys : List (List ℕ))
    → byte_stream coding is_first (xs ++ ys)
    ≡ byte_stream coding is_first xs ++ byte_stream coding (is_first && is_none xs) ys
unfolding byte_stream
stream-append coding true [] ys = refl
stream-append coding false [] ys = refl
stream-append coding true (x ∷ xs) ys =
    rw (stream-append coding false xs ys, append_assoc) refl
stream-append coding false (x ∷ xs) ys =
    rw (stream-append coding false xs ys, append_assoc) refl

module _ (coding : VideoCoding) (sets : List (List ℕ)) (u : List ℕ) where
  -- the units after one more
  pub sets-snoc : (kinds : ℕ) (units : List (List ℕ))
      → with_sets coding sets kinds (units ++ u ∷ [])
      ≡ with_sets coding sets kinds units ++ next_units coding sets (kinds_of coding kinds units) u
  unfolding with_sets kinds_of
  sets-snoc kinds [] = refl
  sets-snoc kinds (x ∷ xs) =
      let before = sets_between coding kinds (kinds_before coding x) sets in
      let after = kinds_after coding kinds x in
      rw (sets-snoc after xs) (sym (append_assoc before (x ∷ with_sets coding sets after xs)
      (next_units coding sets (kinds_of coding after xs) u)))

  -- the kinds that are there after one more
  pub kinds-snoc : (kinds : ℕ) (units : List (List ℕ))
      → kinds_of coding kinds (units ++ u ∷ []) ≡ kinds_after coding (kinds_of coding kinds units) u
  unfolding kinds_of
  kinds-snoc kinds [] = refl
  kinds-snoc kinds (x ∷ xs) = kinds-snoc (kinds_after coding kinds x) xs

and_false : (a b : Bool) → (a ≡ true → b ≡ true → ⊥) → (a && b) ≡ false
and_false true true f = absurd (f refl refl)
and_false true false f = refl
and_false false b f = refl

-- no kind is from a number on and before one that isn't greater
not_between : (from end n : ℕ) → end ≤ from → (nat_le from n && nat_lt n end) ≡ false
not_between from end n le = and_false (nat_le from n) (nat_lt n end) (λ a b.
    let x : from ≤ n = leb-true from n a in
    let y : n < end = ltb-true n end b in
    omega arith)

pub none_between : (coding : VideoCoding) (from end : ℕ) (sets : List (List ℕ)) → end ≤ from
    → sets_between coding from end sets ≡ []
unfolding sets_between
none_between coding from end [] le = refl
none_between coding from end (x ∷ xs) le =
    rw (not_between from end (kinds_below coding x) le) (none_between coding from end xs le)

-- one unit
pub stream-one : (coding : VideoCoding) (is_first : Bool) (u : List ℕ)
    → byte_stream coding is_first (u ∷ []) ≡ coded_unit coding is_first u
unfolding byte_stream
stream-one coding is_first u = append-nil (coded_unit coding is_first u)

-- the bytes of units
abbrev pub bytes_of : List NalUnit → List (List ℕ)
bytes_of units = map (λ (u : NalUnit). u.bytes) units

-- one unit more at the end of a buffer
pub stream-more : (coding : VideoCoding) (is_first : Bool) (xs ys : List (List ℕ)) (old mid new : List ℕ)
    → Appends old mid (byte_stream coding is_first xs)
    → Appends mid new (byte_stream coding (is_first && is_none xs) ys)
    → Appends old new (byte_stream coding is_first (xs ++ ys))
stream-more coding is_first xs ys old mid new before after = record {
  is = after.is
      ∙ ap (λ (z : List ℕ). z ++ byte_stream coding (is_first && is_none xs) ys) before.is
      ∙ append_assoc old (byte_stream coding is_first xs) (byte_stream coding (is_first && is_none xs) ys)
      ∙ ap (λ (z : List ℕ). old ++ z) (sym (stream-append coding is_first xs ys));
}

pub stream-more_one : (coding : VideoCoding) (is_first : Bool) (xs : List (List ℕ)) (u old mid new : List ℕ)
    → Appends old mid (byte_stream coding is_first xs)
    → Appends mid new (coded_unit coding (is_first && is_none xs) u)
    → Appends old new (byte_stream coding is_first (xs ++ u ∷ []))
stream-more_one coding is_first xs u old mid new before after =
    stream-more coding is_first xs (u ∷ []) old mid new before (rw stream-one after)

-- the first so many units, and one more
pub bytes-take_more : (units : List NalUnit) (i : ℕ) (x : NalUnit) → i < length units → x ≡ get_or units i x
    → bytes_of (take (i + 1) units) ≡ bytes_of (take i units) ++ x.bytes ∷ []
bytes-take_more units i x lt is =
    rw (take_more units i x lt, ← is, map-append (λ (u : NalUnit). u.bytes) (take i units) (x ∷ [])) refl

-- the parameter sets of these kinds among one more
pub between-more : (coding : VideoCoding) (from end : ℕ) (units : List NalUnit) (i : ℕ) (x : NalUnit) (is_wanted : Bool)
    → i < length units → x ≡ get_or units i x → is_wanted ≡ is_between coding from end x.bytes
    → sets_between coding from end (bytes_of (take (i + 1) units))
    ≡ sets_between coding from end (bytes_of (take i units)) ++ units_if is_wanted x.bytes
unfolding sets_between
between-more coding from end units i x true lt is e =
    rw (bytes-take_more units i x lt is, filter-append, ← e) refl
between-more coding from end units i x false lt is e =
    rw (bytes-take_more units i x lt is, filter-append, ← e) refl

-- no unit was put before one that may be put
pub none-if : (b is_wanted : Bool) (xs : List (List ℕ)) (u : List ℕ)
    → ((b && is_none xs) && not is_wanted) ≡ (b && is_none (xs ++ units_if is_wanted u))
none-if true true [] u = refl
none-if true false [] u = refl
none-if false true [] u = refl
none-if false false [] u = refl
none-if true true (x ∷ xs) u = refl
none-if true false (x ∷ xs) u = refl
none-if false true (x ∷ xs) u = refl
none-if false false (x ∷ xs) u = refl

pub and-true : (b : Bool) → b ≡ (b && true)
and-true true = refl
and-true false = refl
