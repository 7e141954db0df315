-- References of tracks to others: they stay, but for those to tracks that are left out (ISO/IEC 14496-12, 8.3.3).
use Rattle.std.specs.Prelude.{◌≡◌, ◌+◌, ◌-◌, ◌++◌, ◌==◌, ◌||◌, ◌&&◌, not, ℕ, zero, suc, Bool, if◌then◌else◌, nat_lt}
use Rattle.std.specs.Prelude.{List, [], ◌∷◌, length, take, drop, map, Option, Some, None, Result, Ok, Err}
use Rattle.std.specs.List.{filter, flat_map, list_any}
use Rattle.byteorder.specs.Endian.{big_number}
use Rattle.mp4_codec.specs.BoxType.{code_of}
use Rattle.mp4_codec.specs.Cause.{Cause}
use Rattle.mp4_codec.specs.declared.box_type.BoxType.{BoxType}
use Rattle.mp4_codec.specs.declared.box_type.BoxType.TheVariants.{TrakBox}
use Rattle.mp4_codec.specs.declared.header.BoxHeader.{BoxHeader}
use Rattle.mp4_codec.specs.Cursor.{Cursor, here, header_at}
use Rattle.mp4_remux.specs.declared.reference.Reference.{Reference}

-- a box with which bytes begin: its type, its payload, and how many bytes it has
pub record Part : Type 0 where
  pub name : BoxType
  pub payload : List ℕ
  pub size : ℕ

-- the box of this header, which ends at that place of the bytes; none that has no end, or isn't whole (4.2)
abbrev pub part_with : List ℕ → BoxHeader → ℕ → Option Part
part_with bytes head from =
    if (head.size == 0) || nat_lt (length bytes) (from + (head.size - 8)) then None else
    Some (record { name = head.name; payload = take (head.size - 8) (drop from bytes); size = from + (head.size - 8) })

abbrev pub part_after : List ℕ → Result (BoxHeader × Cursor) Cause → Option Part
part_after bytes (Err c) = None
part_after bytes (Ok h) = part_with bytes h.0 h.1.position

-- the box with which bytes begin, if they begin with a whole one
unfoldable pub first_part : List ℕ → Option Part
first_part bytes = part_after bytes (header_at (here bytes 0))

-- this box, and those that come after it
abbrev pub part_and : Option Part → (ℕ → List Part) → List Part
part_and None others = []
part_and (Some p) others = p ∷ others (p.size - 1)

-- the boxes with which bytes begin, one after the other, where so many bytes are passed over first
unfoldable pub parts_after : ℕ → List ℕ → List Part
parts_after n [] = []
parts_after (suc n) (x ∷ xs) = parts_after n xs
parts_after zero (x ∷ xs) = part_and (first_part (x ∷ xs)) (λ n. parts_after n xs)

abbrev pub parts_in : List ℕ → List Part
parts_in bytes = parts_after 0 bytes

-- the ids in the payload of a reference, of four bytes each
unfoldable pub ids_in : List ℕ → List ℕ
ids_in [] = []
ids_in (a ∷ []) = []
ids_in (a ∷ b ∷ []) = []
ids_in (a ∷ b ∷ c ∷ []) = []
ids_in (a ∷ b ∷ c ∷ d ∷ rest) = big_number 4 (a ∷ b ∷ c ∷ d ∷ rest) ∷ ids_in rest

-- the references of a track in a box of their type
abbrev pub of_kind : ℕ → BoxType → List ℕ → List Reference
of_kind track name payload = map (λ id. record { track_id = track; kind = name; to = id }) (ids_in payload)

-- the references of a track in a box of it: they are in `tref`
abbrev pub of_box : ℕ → BoxType → List ℕ → List Reference
of_box track name payload =
    if code_of name == 0x74726566
    then flat_map (λ (p : Part). of_kind track p.name p.payload) (parts_in payload) else []

-- the references of a track, in the payload of its box
abbrev pub of_track : ℕ → List ℕ → List Reference
of_track track payload = flat_map (λ (p : Part). of_box track p.name p.payload) (parts_in payload)

-- the references of the tracks among the boxes of a movie, whose ids are these, in the order of their boxes
unfoldable pub of_each_track : List Part → List ℕ → List Reference
of_each_track [] ids = []
of_each_track (p ∷ ps) [] = []
of_each_track (p ∷ ps) (id ∷ ids) =
    if code_of p.name == code_of TrakBox
    then of_track id p.payload ++ of_each_track ps ids
    else of_each_track ps (id ∷ ids)

abbrev pub of_first : List Part → List ℕ → List Reference
of_first [] ids = []
of_first (p ∷ ps) ids = of_each_track (parts_in p.payload) ids

-- the references that a movie box of these bytes has, whose tracks have these ids
abbrev pub references_in : List ℕ → List ℕ → List Reference
references_in movie ids = of_first (parts_in movie) ids

-- of all tracks not all are kept
abbrev pub leaves_some : List ℕ → List ℕ → Bool
leaves_some all kept = nat_lt (length kept) (length all)

abbrev pub contains_id : List ℕ → ℕ → Bool
contains_id kept id = list_any (λ k. k == id) kept

-- a reference stays where no track is left out, and else where it is a kept track's and to a kept track
abbrev pub stays : Bool → List ℕ → Reference → Bool
stays some kept r = not some || (contains_id kept r.track_id && contains_id kept r.to)

-- it is left out where it is a kept track's, and to none that is kept
abbrev pub goes : Bool → List ℕ → Reference → Bool
goes some kept r = some && (contains_id kept r.track_id && not (contains_id kept r.to))

-- Of the tracks of a movie box these are kept: their references are in the new box as they were, in their order, but
-- where tracks are left out, for those to tracks that aren't kept.
abbrev pub KeepsReferences : List ℕ → List ℕ → List ℕ → List ℕ → Type 0
KeepsReferences before after all kept =
    references_in after kept ≡ filter (stays (leaves_some all kept) kept) (references_in before all)

-- these are the references of kept tracks that are left out
abbrev pub AreLeftOut : List ℕ → List ℕ → List ℕ → List Reference → Type 0
AreLeftOut before all kept left_out =
    left_out ≡ filter (goes (leaves_some all kept) kept) (references_in before all)
