-- The boxes within a payload, one after the other (ISO/IEC 14496-12, 4.2).
use Rattle.std.specs.Prelude.{◌≡◌, ℕ, ◌+◌, ◌-◌, List, [], ◌∷◌, length, Option, Some, None, Result, Ok, Err, ◌==◌}
use Rattle.std.specs.Prelude.{if◌then◌else◌}
use Rattle.mp4_codec.specs.declared.box_type.BoxType.{BoxType}
use Rattle.mp4_codec.specs.declared.header.BoxHeader.{BoxHeader}
use Rattle.mp4_codec.specs.Cause.{Cause}
use Rattle.mp4_codec.specs.Children.{ChildBox}
use Rattle.mp4_codec.specs.Cursor.{Cursor, here, take_at, header_at}
use Rattle.mp4_faults.specs.declared.child.PlacedBox.{PlacedBox}

-- a box within bytes: its type, the place of its first byte, that of its payload's first byte, and its payload
pub record InnerBox : Type 0 where
  pub name : BoxType
  pub place : ℕ
  pub from : ℕ
  pub payload : List ℕ

abbrev pub inner : PlacedBox → InnerBox
inner b = record { name = b.name; place = b.place; from = b.from; payload = b.payload.now }

-- a box as a child
abbrev pub as_child : InnerBox → ChildBox
as_child b = (b.name, b.payload)

-- the place after a box
abbrev pub end_of : InnerBox → ℕ
end_of b = b.from + length b.payload

-- a box that is within the payload of another, with its places counted as the other's are
abbrev pub outward : InnerBox → InnerBox → InnerBox
outward b child = record {
  name = child.name;
  place = b.from + child.place;
  from = b.from + child.from;
  payload = child.payload;
}

abbrev pub with_part : BoxType → ℕ → ℕ → Result (List ℕ × Cursor) Cause → Option InnerBox
with_part name place from (Ok x) = Some (record { name = name; place = place; from = from; payload = x.0 })
with_part name place from (Err c) = None

abbrev pub with_header : ℕ → Result (BoxHeader × Cursor) Cause → Option InnerBox
with_header place (Ok x) =
    if x.0.size == 0 then None else with_part x.0.name place x.1.position (take_at (x.0.size - 8) x.1)
with_header place (Err c) = None

-- The box that begins at a place of a payload. An open end, or a header or a box that passes the end, is none.
unfoldable pub box_within : List ℕ → ℕ → Option InnerBox
box_within payload place = with_header place (header_at (here payload place))

-- these boxes are in a payload from one place to another, one after the other
unfoldable pub AreWithin : List ℕ → ℕ → List InnerBox → ℕ → Type 0
AreWithin payload place [] next = next ≡ place
AreWithin payload place (b ∷ bs) next = (box_within payload place ≡ Some b) × AreWithin payload (end_of b) bs next
