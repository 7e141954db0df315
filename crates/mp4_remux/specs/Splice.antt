-- The bytes of a source in pieces, with others between them.
use Rattle.std.specs.Prelude.{◌≡◌, ◌+◌, ◌-◌, ◌≤◌, ◌<◌, ◌⊎◌, ℕ, List, [], ◌∷◌, length, take, drop}
use Rattle.std.specs.Prelude.{Bool, map, nat_lt, Some, slice_get}
use Rattle.std.specs.List.{filter, flat_map}
use Rattle.std.proofs.Props.{props}
use mathlib.Core.HLevel.{×_prop}
use Rattle.mp4_remux.specs.declared.piece.Origin.{Origin}
use Rattle.mp4_remux.specs.declared.piece.Origin.TheVariants.{Kept, Made}
use Rattle.mp4_remux.specs.declared.piece.Piece.{Piece}

-- of the two it is the one that the piece is of
abbrev pub of_origin : {A : Type 0} → Origin → A → A → A
of_origin Kept source made = source
of_origin Made source made = made

-- the bytes of a piece
abbrev pub piece_bytes : List ℕ → List ℕ → Piece → List ℕ
piece_bytes source made p = take p.len (drop p.place (of_origin p.origin source made))

-- the bytes of pieces, one after the other
unfoldable pub spliced : List ℕ → List ℕ → List Piece → List ℕ
spliced source made pieces = flat_map (piece_bytes source made) pieces

-- Pieces follow each other from a place of the splice to another: each begins where the one before ends, has a byte,
-- and lies whole in what it is of, the source or the bytes that were made, which have so many bytes.
unfoldable pub Follow : ℕ → ℕ → ℕ → List Piece → ℕ → Type 0
Follow source_len made_len start [] end = end ≡ start
Follow source_len made_len start (p ∷ ps) end =
    (p.at ≡ start) × ((0 < p.len) × ((p.place + p.len ≤ of_origin p.origin source_len made_len)
    × Follow source_len made_len (start + p.len) ps end))

-- bytes of the source, or of those that were made, from a place to an end
pub record Stretch : Type 0 where
  pub origin : Origin
  pub place : ℕ
  pub end : ℕ

abbrev pub kept_stretch : ℕ → ℕ → Stretch
kept_stretch place end = record { origin = Kept; place = place; end = end }

abbrev pub made_stretch : ℕ → ℕ → Stretch
made_stretch place end = record { origin = Made; place = place; end = end }

abbrev pub stretch_of : Piece → Stretch
stretch_of p = record { origin = p.origin; place = p.place; end = p.place + p.len }

abbrev pub stretch_len : Stretch → ℕ
stretch_len s = s.end - s.place

abbrev pub has_bytes : Stretch → Bool
has_bytes s = nat_lt s.place s.end

-- The pieces of a splice are these stretches, one after the other, but those without bytes.
pub record AreStretches (source_len made_len : ℕ) (stretches : List Stretch) (pieces : List Piece) : Type 0 where
  pub are : map stretch_of pieces ≡ filter has_bytes stretches
  pub end : ℕ
  pub follow : Follow source_len made_len 0 pieces end

-- A place of the splice is in this piece, after so many bytes of it; so the bytes from there on are the piece's.
pub record IsPieceAt (source_len made_len : ℕ) (pieces : List Piece) (place : ℕ) (p : Piece) (skipped : ℕ) : Type 0
  where
    pub there : p.at + skipped ≡ place
    pub inside : skipped < p.len
    pub within : p.place + p.len ≤ of_origin p.origin source_len made_len
    pub bytes : (source made : List ℕ) (n : ℕ) → length source ≡ source_len → length made ≡ made_len
        → skipped + n ≤ p.len → take n (drop place (spliced source made pieces))
        ≡ take n (drop (p.place + skipped) (of_origin p.origin source made))

-- The n bytes of the splice from this place on are there, and those of the source from another on.
pub record IsPartOfBoth (source_len len : ℕ) (made : List ℕ) (pieces : List Piece) (place origin n : ℕ) : Type 0 where
  pub there : place + n ≤ len
  pub within : origin + n ≤ source_len
  pub bytes : (source : List ℕ) → length source ≡ source_len
      → take n (drop place (spliced source made pieces)) ≡ take n (drop origin source)

-- n bytes of a splice from a place on are in one piece of the file, whose bytes they are from another place on
pub record AreInPiece (pieces : List Piece) (place origin n : ℕ) : Type 0 where
  pub piece : Piece
  pub number : ℕ
  pub is : slice_get pieces number ≡ Some piece
  pub kept : piece.origin ≡ Kept
  pub begins : piece.at ≤ place
  pub ends : place + n ≤ piece.at + piece.len
  pub from : piece.place + place ≡ origin + piece.at

-- The n bytes of the file from a place on, its origin, are there, and so are those of the splice from another on; and
-- they are the same, as one piece of the file has them, where they are any.
pub record IsMovedTo (pieces : List Piece) (source_len len place origin n : ℕ) : Type 0 where
  pub there : place + n ≤ len
  pub within : origin + n ≤ source_len
  pub moved : (n ≡ 0) ⊎ AreInPiece pieces place origin n

pub Follow-prop : (source_len made_len start : ℕ) (pieces : List Piece) (end : ℕ)
    → IsProp (Follow source_len made_len start pieces end)
unfolding Follow
Follow-prop source_len made_len start [] end = hlevel props
Follow-prop source_len made_len start (p ∷ ps) end =
    let there : IsProp (p.at ≡ start) = hlevel props in
    let some : IsProp (0 < p.len) = hlevel props in
    let within : IsProp (p.place + p.len ≤ of_origin p.origin source_len made_len) = hlevel props in
    ×_prop there (×_prop some (×_prop within (Follow-prop source_len made_len (start + p.len) ps end)))
