-- A sample of video that is turned into a byte stream, one unit after the other.
use Rattle.std.proofs.Common.{◌≡◌, ℕ, ◌+◌, ◌≤◌, Bool, true, false, List, [], ◌∷◌, ◌++◌, refl, sym, ◌∙◌, ap}
use Rattle.std.proofs.Common.{Result, Ok, Err, length, take, drop, cond, arith, nat_eq}
use Rattle.std.specs.Prelude.{nat_lt, ◌&&◌}
use Rattle.mp4_extract.specs.NalUnits.{kinds_before}
use Rattle.std.specs.List.{filter}
use Rattle.std.proofs.lemmas.Bool.{eqb-true}
use Rattle.std.proofs.lemmas.List.{append-nil, length-drop, nil_from_length}
use Rattle.std.proofs.lemmas.List.Elements.{filter-append}
use Rattle.mp4_codec.specs.Bytes.{Appends, number_at, bytes_at}
use Rattle.mp4_codec.specs.Cause.{Cause, invalid_data, ◌>>=◌}
use Rattle.mp4_codec.specs.FieldLaws.{number-has_length}
use Rattle.mp4_codec.specs.Steps.{ok_is}
use Rattle.mp4_extract.specs.declared.annex_b.AnnexB.{AnnexB}
use Rattle.mp4_extract.specs.ByteStream.{unit_at, HoldUnits, IsStreamOf, byte_stream, with_sets, sets_of, stream_of}
use Rattle.mp4_extract.specs.ByteStream.{has_bytes, is_none, kinds_after, length_size, next_units, sets_between}
use Rattle.mp4_extract.proofs.Streams.{kinds_of, sets-snoc, kinds-snoc, stream-more}

-- the units that are written for these of a sample
abbrev pub written_units : AnnexB → List (List ℕ) → List (List ℕ)
written_units stream units = with_sets stream.coding (sets_of stream) 0 (filter has_bytes units)

-- so far is a sample turned
pub record IsTurned (stream : AnnexB) (sample rest old new : List ℕ) (is_first : Bool) (kinds : ℕ) : Type 0 where
  pub units : List (List ℕ)
  pub held : HoldUnits (length_size stream) units sample rest
  pub written : Appends old new (byte_stream stream.coding true (written_units stream units))
  pub first_is : is_first ≡ (true && is_none (written_units stream units))
  pub kinds_is : kinds ≡ kinds_of stream.coding 0 (filter has_bytes units)

-- a unit more
pub held-snoc : (n : ℕ) (units : List (List ℕ)) (bytes rest u next : List ℕ) → HoldUnits n units bytes rest
    → unit_at n rest ≡ Ok (u, next) → HoldUnits n (units ++ u ∷ []) bytes next
held-snoc n [] bytes rest u next held e = (next, rw held e, refl)
held-snoc n (x ∷ xs) bytes rest u next held e = (held.0, held.1, held-snoc n xs held.0 rest u next held.2 e)

abbrev snd : List ℕ × List ℕ → List ℕ
snd x = x.1

bytes_moves : (k : ℕ) (bytes u next : List ℕ) (b : Bool)
    → cond {A = Result (List ℕ × List ℕ) Cause} b (Err invalid_data) (Ok (take k bytes, drop k bytes)) ≡ Ok (u, next)
    → length next ≤ length bytes
bytes_moves k bytes u next true e = cc
bytes_moves k bytes u next false e =
    let is : drop k bytes ≡ next = ap snd (ok_is (take k bytes, drop k bytes) (u, next) e) in
    rw (← is, length-drop k bytes) (omega arith)

unit_moves : (n : ℕ) (bytes u next : List ℕ) (r : Result (ℕ × List ℕ) Cause) → number_at n bytes ≡ r
    → (r >>= λ size. bytes_at size.0 size.1) ≡ Ok (u, next) → n + length next ≤ length bytes
unfolding bytes_at
unit_moves n bytes u next (Ok size) read e =
    let first : length bytes ≡ n + length size.1 = (number-has_length n).moves bytes size.0 size.1 read in
    let second : length next ≤ length size.1 =
    bytes_moves size.0 size.1 u next (nat_lt (length size.1) size.0) e in
    omega arith
unit_moves n bytes u next (Err c) read e = cc

-- a unit takes its length at least
pub unit-moves : (n : ℕ) (bytes u next : List ℕ) → unit_at n bytes ≡ Ok (u, next) → n + length next ≤ length bytes
unfolding unit_at
unit-moves n bytes u next e = unit_moves n bytes u next (number_at n bytes) refl e

none_before : (xs ys : List (List ℕ)) (u : List ℕ) → is_none (xs ++ (ys ++ u ∷ [])) ≡ false
none_before [] [] u = refl
none_before [] (y ∷ ys) u = refl
none_before (x ∷ xs) ys u = refl

-- nothing is left
pub nil_when : (bytes : List ℕ) → nat_eq (length bytes) 0 ≡ true → bytes ≡ []
nil_when bytes e = nil_from_length bytes (eqb-true (length bytes) 0 e)

module _ (stream : AnnexB) (sample old : List ℕ) where
  pub begun : IsTurned stream sample sample old old true 0
  unfolding with_sets byte_stream kinds_of
  begun = record {
    units = [];
    held = refl;
    written = record { is = sym (append-nil old) };
    first_is = refl;
    kinds_is = refl;
  }

  module _ (rest new u next : List ℕ) (is_first : Bool) (kinds : ℕ)
      (so_far : IsTurned stream sample rest old new is_first kinds)
      (read : unit_at (length_size stream) rest ≡ Ok (u, next)) where
    kept_empty : has_bytes u ≡ false → filter has_bytes (so_far.units ++ u ∷ []) ≡ filter has_bytes so_far.units
    kept_empty e =
        filter-append has_bytes so_far.units (u ∷ [])
        ∙ rw e (append-nil (filter has_bytes so_far.units))

    kept_one : has_bytes u ≡ true
        → filter has_bytes (so_far.units ++ u ∷ []) ≡ filter has_bytes so_far.units ++ u ∷ []
    kept_one e = filter-append has_bytes so_far.units (u ∷ []) ∙ rw e refl

    -- a unit without a byte
    pub passed : has_bytes u ≡ false → IsTurned stream sample next old new is_first kinds
    passed e = record {
      units = so_far.units ++ u ∷ [];
      held = held-snoc (length_size stream) so_far.units sample rest u next so_far.held read;
      written = rw (kept_empty e) so_far.written;
      first_is = rw (kept_empty e) so_far.first_is;
      kinds_is = rw (kept_empty e) so_far.kinds_is;
    }

    sets_more : has_bytes u ≡ true
        → written_units stream (so_far.units ++ u ∷ [])
        ≡ written_units stream so_far.units ++ next_units stream.coding (sets_of stream) kinds u
    sets_more e =
        rw (kept_one e, so_far.kinds_is) (sets-snoc stream.coding (sets_of stream) u 0 (filter has_bytes so_far.units))

    -- a unit that is written
    pub put : has_bytes u ≡ true → (after : List ℕ)
        → Appends new after (byte_stream stream.coding is_first (next_units stream.coding (sets_of stream) kinds u))
        → IsTurned stream sample next old after false (kinds_after stream.coding kinds u)
    put e after more = record {
      units = so_far.units ++ u ∷ [];
      held = held-snoc (length_size stream) so_far.units sample rest u next so_far.held read;
      written = rw (sets_more e) (stream-more stream.coding true (written_units stream so_far.units)
          (next_units stream.coding (sets_of stream) kinds u) old new after so_far.written
          (rw (← so_far.first_is) more));
      first_is = rw (sets_more e) (sym (none_before (written_units stream so_far.units)
          (sets_between stream.coding kinds (kinds_before stream.coding u) (sets_of stream)) u));
      kinds_is = rw (kept_one e, so_far.kinds_is) (sym (kinds-snoc stream.coding (sets_of stream) u 0
          (filter has_bytes so_far.units)));
    }

-- all units were read
pub finished : (stream : AnnexB) (sample rest old new : List ℕ) (is_first : Bool) (kinds : ℕ)
    → IsTurned stream sample rest old new is_first kinds → rest ≡ []
    → (bytes : List ℕ) × (IsStreamOf stream sample bytes) × (new ≡ old ++ bytes)
unfolding stream_of
finished stream sample rest old new is_first kinds so_far e = (
  stream_of stream so_far.units,
  (so_far.units, rw e at so_far.held, refl),
  so_far.written.is,
)
