-- What sinks hold after parts of bytes, and after refusals.
use Rattle.std.proofs.Common.{◌≡◌, ℕ, ◌+◌, ◌-◌, ◌≤◌, List, [], ◌∷◌, ◌++◌, length, take, drop, Option, Result, Ok, Err}
use Rattle.std.proofs.Common.{arith, sym, take-add, take_all}
use Rattle.std.proofs.KnownBytes.{Appends-kept, Appends-trans}
use Rattle.std.proofs.lemmas.List.{append-nil, length-drop}
use mathlib.Core.List.{append_assoc}
use Rattle.std.proofs.Math.ListN.{take-append-drop}
use Rattle.std.specs.Prelude.{IsErr, OnErr, OnOk, fold}
use Rattle.std.specs.declared.io.Error.{Error as IoError}
use Rattle.std.specs.Io.KnownBytes.{Appends, Keeps}
use Rattle.mp4_extract.specs.Extracting.{HasFront, IsPut}

module _ (bytes : List ℕ) (n : ℕ) (old mid new : Option (List ℕ)) (so_far : Appends old mid (take n bytes)) where
  -- a front was written, and then nothing more
  pub front_kept : Keeps mid new → HasFront bytes old new
  front_kept kept = (
    take n bytes,
    (drop n bytes, sym (take-append-drop n bytes)),
    Appends-kept old mid new (take n bytes) so_far kept,
  )

  pub front_none : Appends mid new [] → HasFront bytes old new
  front_none none = (
    take n bytes ++ [],
    (drop n bytes, rw (append-nil (take n bytes)) (sym (take-append-drop n bytes))),
    Appends-trans old mid new (take n bytes) [] so_far none,
  )

  -- the bytes that are left
  rest_is : take (length bytes - n) (drop n bytes) ≡ drop n bytes
  rest_is = take_all (length bytes - n) (drop n bytes) (omega (arith, length-drop n bytes))

  -- a part of them was written
  pub front_more : (m sum : ℕ) → sum ≡ n + m → m ≤ length (take (length bytes - n) (drop n bytes)) → n ≤ length bytes
      → Appends mid new (take m (take (length bytes - n) (drop n bytes)))
      → (sum ≤ length bytes) × (Appends old new (take sum bytes))
  front_more m sum is few within more = (
    omega (arith, is, within, rw rest_is at few, length-drop n bytes),
    rw (is, take-add n m bytes)
        (Appends-trans old mid new (take n bytes) (take m (drop n bytes)) so_far (rw rest_is at more)),
  )

  -- nothing more was written
  pub still_written : (same : ℕ) → same ≡ n → n ≤ length bytes → Keeps mid new
      → (same ≤ length bytes) × (Appends old new (take same bytes))
  still_written same is within kept = rw is (within, Appends-kept old mid new (take n bytes) so_far kept)

-- a front of the first of two parts, and one of the second after the first, are fronts of both
pub first_front : (a b : List ℕ) (old new : Option (List ℕ)) → HasFront a old new → HasFront (a ++ b) old new
first_front a b old new (front, (rest, is), held) =
    (front, (rest ++ b, rw is (append_assoc front rest b)), held)

pub second_front : (a b : List ℕ) (old mid new : Option (List ℕ)) → Appends old mid a → HasFront b mid new
    → HasFront (a ++ b) old new
second_front a b old mid new so_far (front, (rest, is), held) =
    (a ++ front, (rest, rw is (sym (append_assoc a front rest))), Appends-trans old mid new a front so_far held)

-- what was put whole or in part
pub of_all : (bytes : List ℕ) (old new : Option (List ℕ)) (r : Result (Unit {0}) IoError)
    → OnOk r (Appends old new bytes) → OnErr r (HasFront bytes old new) → IsPut bytes old new r
of_all bytes old new (Ok done) whole part = whole
of_all bytes old new (Err e) whole part = part

-- bytes after others that are there
pub then_put : (a b : List ℕ) (old mid new : Option (List ℕ)) (r : Result (Unit {0}) IoError) → Appends old mid a
    → IsPut b mid new r → IsPut (a ++ b) old new r
then_put a b old mid new (Ok done) so_far put = Appends-trans old mid new a b so_far put
then_put a b old mid new (Err e) so_far put = second_front a b old mid new so_far put

-- a front of the first of more parts is one of all
pub front_among : (old new : Option (List ℕ)) (others : List (List ℕ)) (a : List ℕ) → HasFront a old new
    → HasFront (fold (λ (x y : List ℕ). x ++ y) a others) old new
front_among old new [] a front = front
front_among old new (b ∷ others) a front = front_among old new others (a ++ b) (first_front a b old new front)

-- bytes of which a front is there, after a refusal
pub stop_put : (bytes : List ℕ) (old new : Option (List ℕ)) (r : Result (Unit {0}) IoError) → IsErr r
    → HasFront bytes old new → IsPut bytes old new r
stop_put bytes old new (Ok done) refused front = absurd cc
stop_put bytes old new (Err e) refused front = front
