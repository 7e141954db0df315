-- Each byte of the data lies in exactly one sample.
use Rattle.std.proofs.Common.{◌≡◌, ℕ, zero, suc, ◌+◌, ◌<◌, ◌≤◌, List, [], ◌∷◌, length, map, sum, slice_get, Some}
use Rattle.std.proofs.Common.{refl, sym, ap, subst, unwrap_or, arith, ⊎_elim}
use Rattle.std.proofs.lemmas.Bool.{cases_lt}
use Rattle.std.proofs.lemmas.List.Sums.{sum_by-cons}
use Rattle.mp4_table.specs.Chunks.{laid_from}
use Rattle.mp4_mux.specs.Writing.{WriterState, data_of, data_place}
use Rattle.mp4_mux.specs.Written.{Tiles, LiesIn, LiesInOne, SampleRange, ranges}

-- none of the ranges begins before the first
starts_from : (place : ℕ) (ns : List ℕ) (j : ℕ) (r : ℕ × ℕ) → slice_get (laid_from place ns) j ≡ Some r → place ≤ r.0
unfolding laid_from
starts_from place [] j r e = absurd cc
starts_from place (n ∷ ns) zero r e =
    let first : (place, n) ≡ r = ap (λ o. unwrap_or o (place, n)) e in
    omega (arith, ap (λ (x : ℕ × ℕ). x.0) first)
starts_from place (n ∷ ns) (suc j) r e = let later = starts_from (place + n) ns j r e in omega (arith, later)

-- a byte of the first range is in no later one
first_only : (place n : ℕ) (ns : List ℕ) (byte : ℕ) → byte < place + n → (j : ℕ) (r : ℕ × ℕ)
    → slice_get (laid_from place (n ∷ ns)) j ≡ Some r → LiesIn byte r → j ≡ 0
unfolding laid_from
first_only place n ns byte l zero r e lies = refl
first_only place n ns byte l (suc j) r e lies =
    let after = starts_from (place + n) ns j r e in
    let low = lies.0 in
    absurd (omega (arith, after, low, l))

-- a byte after it is not in the first
later_only : (place n : ℕ) (ns : List ℕ) (byte : ℕ) → place + n ≤ byte
    → (one : LiesInOne byte (laid_from (place + n) ns))
    → (j : ℕ) (r : ℕ × ℕ) → slice_get (laid_from place (n ∷ ns)) j ≡ Some r → LiesIn byte r → j ≡ suc one.index
unfolding laid_from
later_only place n ns byte l one zero r e lies =
    let first : (place, n) ≡ r = ap (λ o. unwrap_or o (place, n)) e in
    let high = lies.1 in
    absurd (omega (arith, l, high, ap (λ (x : ℕ × ℕ). x.0) first, ap (λ (x : ℕ × ℕ). x.1) first))
later_only place n ns byte l one (suc j) r e lies = ap suc (one.no_other j r e lies)

-- of ranges that lie one after the other a byte from the first to the last lies in one
in_one : (place : ℕ) (ns : List ℕ) (byte : ℕ) → place ≤ byte → byte < place + sum ns
    → LiesInOne byte (laid_from place ns)
unfolding laid_from
in_one place [] byte low high = absurd (omega arith)
in_one place (n ∷ ns) byte low high =
    let whole = sum_by-cons (λ x. x) n ns in
    ⊎_elim
    (λ (l : byte < place + n). record {
      index = 0;
      range = (place, n);
      is_there = refl;
      lies = (low, l);
      no_other = first_only place n ns byte l;
    })
    (λ (l : place + n ≤ byte). let one = in_one (place + n) ns byte l (omega (arith, high, whole)) in record {
      index = suc one.index;
      range = one.range;
      is_there = one.is_there;
      lies = one.lies;
      no_other = later_only place n ns byte l one;
    })
    (cases_lt byte (place + n))

-- each byte of the data lies in exactly one sample
pub each_byte : (st : WriterState) → Tiles st → (byte : ℕ) → data_place st ≤ byte
    → byte < data_place st + length (data_of st) → LiesInOne byte (map (λ (r : SampleRange). r.range) (ranges st))
each_byte st tiles byte low high =
    let whole = tiles.whole in
    subst (LiesInOne byte) (sym tiles.in_order) (in_one (data_place st) _ byte low (omega (arith, high, whole)))
