-- A file whose movie box is put in front.
use Rattle.std.proofs.Common.{◌≡◌, ◌∙◌, ◌⊎◌, inl, inr, ℕ, ◌+◌, ◌-◌, ◌^◌, ◌<◌, ◌≤◌, ◌&&◌, if◌then◌else◌, min, nat_lt}
use Rattle.std.proofs.Common.{Bool, true, false, List, length, Option, None, Some, IfSome, refl, sym, ap, subst, arith}
use Rattle.std.specs.Prelude.{map, not, slice_get}
use Rattle.std.specs.List.{filter}
use Rattle.mp4_codec.specs.declared.box_type.BoxType.TheVariants.{FtypBox as ftyp, MoovBox as moov}
use Rattle.mp4_media.specs.FileGrammar.{between}
use Rattle.mp4_source.specs.Answers.{IsLength}
use Rattle.mp4_remux.specs.Front.{AreApart, AreBoxes, in_front, IsBoxOf, IsMoved, IsOnly}
use Rattle.mp4_remux.specs.Moved.{IsBy, IsMovedAt, IsUpToTwice, bytes_before, place_in_front}
use Rattle.mp4_remux.specs.PlannedFront.{IsInFront, front_stretches}
use Rattle.mp4_remux.specs.Splice.{Follow, has_bytes, spliced, stretch_of}
use Rattle.mp4_remux.specs.declared.layout.Layout.{Layout}
use Rattle.mp4_remux.specs.declared.moves.Moves.TheVariants.{Front}
use Rattle.mp4_remux.specs.declared.piece.Piece.{Piece}
use Rattle.mp4_remux.specs.declared.top_level.TopBox.{TopBox}
use Rattle.mp4_remux.proofs.Causes.{are_apart}
use Rattle.mp4_remux.proofs.FrontPlaces.{moved_there}
use Rattle.mp4_remux.proofs.Growing.{longer}
use Rattle.mp4_remux.proofs.Moving.{moved_is_kept}
use Rattle.mp4_remux.proofs.Pieces.{length-spliced}

-- WHERE BYTES ARE

-- moves to the front are by where they say that a byte is
pub is_by : (file_type movie : TopBox) (n : ℕ) → IsBy (Front file_type movie n) (place_in_front file_type movie n)
is_by file_type movie n = record { each = λ place new is. is }

-- A LONGER MOVIE BOX

-- the longer the movie box, the farther the places
pub farther : (file_type movie : TopBox) (n m : ℕ) → n ≤ m → (place : ℕ)
    → place_in_front file_type movie n place ≤ place_in_front file_type movie m place
farther file_type movie n m le place = by (not (nat_lt place file_type.place) && nat_lt place file_type.end)
  where
    by : (inside : Bool)
        → (if inside then place - file_type.place else
        min (2 ^ 64 - 1) (place - bytes_before file_type place - bytes_before movie place
        + (file_type.end - file_type.place) + n))
        ≤ (if inside then place - file_type.place else
        min (2 ^ 64 - 1) (place - bytes_before file_type place - bytes_before movie place
        + (file_type.end - file_type.place) + m))
    by true = omega arith
    by false = omega (arith, le)

-- a movie box was as long as reckoned with at first, or each that is made with that length has as many bytes or more
abbrev pub IsLeast : TopBox → TopBox → List ℕ → ℕ → Type 0
IsLeast file_type movie bytes n = (n ≡ length bytes) ⊎ ((made : List ℕ)
    → IsMovedAt (place_in_front file_type movie n) 0 bytes made → n ≤ length made)

pub grows : (file_type movie : TopBox) (bytes made : List ℕ) (n : ℕ) → IsLeast file_type movie bytes n
    → IsMovedAt (place_in_front file_type movie n) 0 bytes made → IsUpToTwice bytes made → n ≤ length made
grows file_type movie bytes made n (inl first) moved long = omega (arith, first, long.0)
grows file_type movie bytes made n (inr least) moved long = least made moved

pub least_still : (file_type movie : TopBox) (bytes made : List ℕ) (n : ℕ) → n ≤ length made
    → IsMovedAt (place_in_front file_type movie n) 0 bytes made → IsLeast file_type movie bytes (length made)
least_still file_type movie bytes made n le moved = inr (λ other also.
    longer (place_in_front file_type movie n) (place_in_front file_type movie (length made))
    (farther file_type movie n (length made) le) 0 bytes made moved other also)

-- WHAT IS PLANNED

-- the pieces of a layout follow each other
pub laid_out : (xs made : List ℕ) (ps : List Piece) (len : ℕ) (l : Layout) → len ≡ length xs → l.source_len ≡ len
    → l.made.items ≡ made → l.pieces.items ≡ ps → Follow (length xs) (length made) 0 ps l.len
laid_out xs made ps len l measured is_len is_made is_ps =
    let one = subst (λ (qs : List Piece). Follow l.source_len (length l.made.items) 0 qs l.len) is_ps l.follow in
    let two = subst (λ (m : List ℕ). Follow l.source_len (length m) 0 ps l.len) is_made one in
    subst (λ n. Follow n (length made) 0 ps l.len) (is_len ∙ measured) two

-- a file with its movie box in front has less than 2^64 bytes
short : (xs made : List ℕ) (ps : List Piece) (len : ℕ) (l : Layout) → len ≡ length xs → l.source_len ≡ len
    → l.made.items ≡ made → l.pieces.items ≡ ps → l.len < 2 ^ 64 → length (spliced xs made ps) < 2 ^ 64
short xs made ps len l measured is_len is_made is_ps small =
    omega (
      arith,
      length-spliced xs made ps 0 l.len (laid_out xs made ps len l measured is_len is_made is_ps),
      small,
    )

-- the bytes and pieces of a file with its movie box in front
pub is_planned : (known : Option (List ℕ)) (len : ℕ) (boxes : List TopBox) (one other : TopBox)
    (bytes made : List ℕ) (ps : List Piece) (l : Layout) → IsLength known len → IsOnly boxes ftyp one
    → IsOnly boxes moov other → IfSome known (λ xs. AreBoxes xs 0 boxes) → IfSome known (λ xs. IsBoxOf xs ftyp one)
    → IfSome known (λ xs. IsBoxOf xs moov other) → IfSome known (λ xs. bytes ≡ between xs other.place other.end)
    → IsMovedAt (place_in_front one other (length made)) 0 bytes made
    → map stretch_of ps ≡ filter has_bytes (front_stretches len one other (length made))
    → ((source : List ℕ) → length source ≡ len → spliced source made ps ≡ in_front source one other made)
    → l.source_len ≡ len → l.made.items ≡ made → l.pieces.items ≡ ps → l.len < 2 ^ 64
    → IfSome known (λ xs. IsInFront xs made ps)
is_planned None len boxes one other bytes made ps l measured first second are whole also is moved laid all is_len
    is_made is_ps small = tt
is_planned (Some xs) len boxes one other bytes made ps l measured first second are whole also is moved laid all is_len
    is_made is_ps small = record {
      boxes = boxes;
      file_type = one;
      movie = other;
      are = are;
      has_file_type = record { only = first; whole = whole };
      has_movie = record { only = second; whole = also };
      moved = subst (λ (b : List ℕ). IsMovedAt (place_in_front one other (length made)) 0 b made) is moved;
      stretches = record {
        are = laid ∙ ap (λ n. filter has_bytes (front_stretches n one other (length made))) measured;
        end = l.len;
        follow = laid_out xs made ps len l measured is_len is_made is_ps;
      };
      bytes = λ source long. all source (long ∙ sym measured);
      places = λ place inside outside.
          ap (λ ys. slice_get ys (place_in_front one other (length made) place)) is_front
          ∙ moved_there xs made one other apart few place inside outside;
    }
  where
    differ : one.name ≡ other.name → ⊥
    differ same = let no : ftyp ≡ moov = sym first.has_name ∙ same ∙ second.has_name in absurd cc

    apart : AreApart (length xs) one other
    apart = are_apart xs (length xs) boxes one other first.i second.i refl are first.there second.there differ

    is_front : spliced xs made ps ≡ in_front xs one other made
    is_front = all xs (sym measured)

    few : length (in_front xs one other made) < 2 ^ 64
    few = subst (λ (ys : List ℕ). length ys < 2 ^ 64) is_front
        (short xs made ps len l measured is_len is_made is_ps small)

-- a file with its movie box in front is the other with that box moved
pub planned_moved : (known : Option (List ℕ)) (made : List ℕ) (ps : List Piece)
    → IfSome known (λ xs. IsInFront xs made ps) → IfSome known (λ xs. IsMoved xs (spliced xs made ps))
planned_moved None made ps front = tt
planned_moved (Some xs) made ps front = record {
  file_type = front.file_type;
  movie = front.movie;
  made = made;
  has_file_type = front.has_file_type.whole;
  has_movie = front.has_movie.whole;
  kept = moved_is_kept _ 0 _ _ front.moved;
  bytes = front.bytes xs refl;
}
