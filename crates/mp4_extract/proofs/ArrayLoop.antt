-- Arrays of units that are read one after the other, as a loop does.
use Rattle.std.proofs.Common.{◌≡◌, ℕ, suc, ◌-◌, ◌+◌, ◌≤◌, ◌<◌, List, [], ◌++◌, Result, Ok, Err, refl, sym, ap}
use Rattle.std.proofs.Common.{◌∙◌, append_assoc, arith}
use Rattle.std.proofs.lemmas.List.{append-nil}
use Rattle.mp4_codec.specs.Cause.{Cause, ◌>>=◌}
use Rattle.mp4_codec.specs.Steps.{ok_is}
use Rattle.mp4_entry.specs.declared.avcc.NalUnit.{NalUnit}
use Rattle.mp4_extract.specs.ParameterSets.{after_units, array_at, arrays_at}

abbrev Answer : Type 0
Answer = Result (List NalUnit × List ℕ) Cause

pub no_units_before : (r : Answer) → after_units [] r ≡ r
no_units_before (Ok x) = refl
no_units_before (Err c) = refl

regroup : (front first : List NalUnit) (r : Answer)
    → after_units front (r >>= λ x. Ok (first ++ x.0, x.1)) ≡ after_units (front ++ first) r
regroup front first (Ok x) = ap (λ (us : List NalUnit). Ok (us, x.1)) (sym (append_assoc front first x.0))
regroup front first (Err c) = refl

-- what an array added is what is read after the units before it
read_first : (front now : List NalUnit) (after : List ℕ) (r : Answer) → after_units front r ≡ Ok (now, after)
    → (first : List NalUnit) × (r ≡ Ok (first, after)) × (front ++ first ≡ now)
read_first front now after (Ok x) e =
    let same : (front ++ x.0, x.1) ≡ (now, after) = ok_is (front ++ x.0, x.1) (now, after) e in (
      x.0,
      ap (λ (z : List NalUnit × List ℕ). let r : Answer = Ok (x.0, z.1) in r) same,
      ap (λ (z : List NalUnit × List ℕ). z.0) same,
    )
read_first front now after (Err c) e = cc

refused : (front : List NalUnit) (c : Cause) (r : Answer) → after_units front r ≡ Err c → r ≡ Err c
refused front c (Ok x) e = cc
refused front c (Err d) e = e

goes_on_with : (front : List NalUnit) (count i : ℕ) (bytes : List ℕ) (first : List NalUnit) (after : List ℕ)
    (total : Answer) → i < count → array_at bytes ≡ Ok (first, after)
    → after_units front (arrays_at (count - i) bytes) ≡ total
    → after_units (front ++ first) (arrays_at (count - (i + 1)) after) ≡ total
unfolding arrays_at
goes_on_with front count i bytes first after total lt h so_far =
    let k : count - i ≡ suc (count - (i + 1)) = omega arith in
    let one : after_units front (arrays_at (count - i) bytes)
    ≡ after_units (front ++ first) (arrays_at (count - (i + 1)) after) =
    rw (k, h) (regroup front first (arrays_at (count - (i + 1)) after)) in
    sym one ∙ so_far

pub goes_on : (front : List NalUnit) (count i : ℕ) (bytes : List ℕ) (now : List NalUnit) (after : List ℕ)
    (total : Answer)
    → i < count → after_units front (array_at bytes) ≡ Ok (now, after)
    → after_units front (arrays_at (count - i) bytes) ≡ total
    → after_units now (arrays_at (count - (i + 1)) after) ≡ total
goes_on front count i bytes now after total lt h so_far =
    let first = read_first front now after (array_at bytes) h in
    ap (λ (us : List NalUnit). after_units us (arrays_at (count - (i + 1)) after)) (sym first.2)
    ∙ goes_on_with front count i bytes first.0 after total lt first.1 so_far

pub ends : (c : Cause) (front : List NalUnit) (count i : ℕ) (bytes : List ℕ) (total : Answer)
    → i < count → after_units front (array_at bytes) ≡ Err c
    → after_units front (arrays_at (count - i) bytes) ≡ total → total ≡ Err c
unfolding arrays_at
ends c front count i bytes total lt h so_far =
    let k : count - i ≡ suc (count - (i + 1)) = omega arith in
    let none : array_at bytes ≡ Err c = refused front c (array_at bytes) h in
    let one : after_units front (arrays_at (count - i) bytes) ≡ Err c = rw (k, none) refl in
    sym so_far ∙ one

pub is_done : (front : List NalUnit) (count i : ℕ) (bytes : List ℕ) (total : Answer) → count ≤ i
    → after_units front (arrays_at (count - i) bytes) ≡ total → total ≡ Ok (front, bytes)
unfolding arrays_at
is_done front count i bytes total le so_far =
    let k : count - i ≡ 0 = omega arith in
    let one : after_units front (arrays_at (count - i) bytes) ≡ Ok (front, bytes) =
    rw k (ap (λ (us : List NalUnit). Ok (us, bytes)) (append-nil front)) in
    sym so_far ∙ one
