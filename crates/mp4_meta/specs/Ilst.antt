-- Metadata as a list of items, as iTunes writes it.
use Rattle.std.specs.Prelude.{◌≡◌, ℕ, List, [], ◌∷◌, length, Option, None, Result, Ok, IfSome}
use Rattle.mp4_codec.specs.declared.box_type.BoxType.{BoxType}
use Rattle.mp4_codec.specs.declared.box_type.BoxType.TheVariants.{DataBox as data_box, NameBox}
use Rattle.mp4_codec.specs.declared.box_type.BoxType.TheVariants.{DayBox, CovrBox, DescBox}
use Rattle.mp4_codec.specs.Cause.{Cause, ◌>>=◌, ◌or◌}
use Rattle.mp4_codec.specs.Bytes.{◌⧺◌}
use Rattle.mp4_codec.specs.Boxes.{box_bytes, optional, no_refusal, IsCanonical}
use Rattle.mp4_codec.specs.Early.{Early, takes_memory, early_gathered, early_last, at_once, refused_at_once}
use Rattle.mp4_codec.specs.Early.{◌and_then◌}
use Rattle.mp4_codec.specs.Children.{ChildBox, children, gathered, fault_in, last_of, with_last, needed}
use Rattle.mp4_leaf.specs.Data.{data_of, data_payload, IsInRangeData, IsWellFormedData, default_data}
use Rattle.mp4_meta.specs.declared.metadata_key.MetadataKey.{MetadataKey}
use Rattle.mp4_meta.specs.declared.metadata_key.MetadataKey.TheVariants.{Title, Year, Poster, Summary}
use Rattle.mp4_meta.specs.declared.ilst.IlstItemBox.{IlstItemBox}
use Rattle.mp4_meta.specs.declared.ilst.IlstBox.{IlstBox}
use Rattle.mp4_meta.specs.declared.ilst.IlstParts.{IlstParts}

-- the item that a payload holds: its last data box, which has to be there
unfoldable pub item_of : List ℕ → Result IlstItemBox Cause
item_of payload = do
  last ← gathered (fault_in data_box data_of) (last_of data_box data_of) (children payload)
  value ← needed data_box last
  Ok (record { item = value })

-- what a payload shows of an item before memory is requested: its children, and then that the value is missing
unfoldable pub item_early : List ℕ → Early
item_early payload =
    early_gathered (early_last data_box (λ p. refused_at_once (data_of p))) (children payload)
    and_then at_once (item_of payload)

-- the payload that holds an item
unfoldable pub item_payload : IlstItemBox → List ℕ
item_payload i = box_bytes data_box (data_payload i.item)

abbrev pub IsInRangeItem : IlstItemBox → Type 0
IsInRangeItem i = IsInRangeData i.item

abbrev pub IsWellFormedItem : IlstItemBox → Type 0
IsWellFormedItem i = IsWellFormedData i.item

-- an item of a default value
abbrev pub default_item : IlstItemBox
default_item = record { item = default_data }

-- the type of the items of a key
abbrev pub item_type : MetadataKey → BoxType
item_type Title = NameBox
item_type Year = DayBox
item_type Poster = CovrBox
item_type Summary = DescBox

-- what a map holds, key by key in the order of the list of keys
abbrev pub Held : Type 0
Held = List (Option IlstItemBox)

-- what is held at a key; the keys are listed as Title, Year, Poster, Summary
unfoldable pub item_at : MetadataKey → Held → Option IlstItemBox
item_at Title (title ∷ held) = title
item_at Year (title ∷ year ∷ held) = year
item_at Poster (title ∷ year ∷ poster ∷ held) = poster
item_at Summary (title ∷ year ∷ poster ∷ summary ∷ held) = summary
item_at key held = None

-- the same with an item at a key, or with none there
unfoldable pub items_with : MetadataKey → Option IlstItemBox → Held → Held
items_with Title item (title ∷ held) = item ∷ held
items_with Year item (title ∷ year ∷ held) = title ∷ item ∷ held
items_with Poster item (title ∷ year ∷ poster ∷ held) = title ∷ year ∷ item ∷ held
items_with Summary item (title ∷ year ∷ poster ∷ summary ∷ held) = title ∷ year ∷ poster ∷ item ∷ held
items_with key item held = held

-- the box of a key's item, where there is one
abbrev pub item_box_bytes : MetadataKey → Held → List ℕ
item_box_bytes key held = optional (item_type key) item_payload (item_at key held)

-- why a child refuses the list
unfoldable pub ilst_fault : ChildBox → Option Cause
ilst_fault c =
    fault_in NameBox item_of c or (fault_in DayBox item_of c
    or (fault_in CovrBox item_of c or fault_in DescBox item_of c))

-- what is taken of the children: the last item of each key
unfoldable pub ilst_taken : List ChildBox → IlstParts
ilst_taken cs = record {
  title = last_of NameBox item_of cs;
  year = last_of DayBox item_of cs;
  poster = last_of CovrBox item_of cs;
  summary = last_of DescBox item_of cs;
}

-- the same with one child more
unfoldable pub ilst_added : IlstParts → ChildBox → Result IlstParts Cause
ilst_added p c = do
  title ← with_last NameBox item_of c p.title
  year ← with_last DayBox item_of c p.year
  poster ← with_last CovrBox item_of c p.poster
  summary ← with_last DescBox item_of c p.summary
  Ok (record { title = title; year = year; poster = poster; summary = summary })

-- the list that a payload holds
unfoldable pub ilst_of : List ℕ → Result IlstBox Cause
ilst_of payload = do
  parts ← gathered ilst_fault ilst_taken (children payload)
  Ok (record { items = parts.title ∷ parts.year ∷ parts.poster ∷ parts.summary ∷ [] })

-- what a child shows before memory is requested
unfoldable pub ilst_child_early : ChildBox → Early
ilst_child_early c =
    early_last NameBox item_early c
    and_then (early_last DayBox item_early c
    and_then (early_last CovrBox item_early c
    and_then early_last DescBox item_early c))

-- what a payload shows before memory is requested: its children; the map of the items takes memory
unfoldable pub ilst_early : List ℕ → Early
ilst_early payload = early_gathered ilst_child_early (children payload) and_then takes_memory

-- the payload that holds a list
unfoldable pub ilst_payload : IlstBox → List ℕ
ilst_payload b =
    item_box_bytes Title b.items ⧺ item_box_bytes Year b.items
    ⧺ item_box_bytes Poster b.items ⧺ item_box_bytes Summary b.items

-- each number is within its type, and each of the four keys has its place
pub record IsInRangeIlst (b : IlstBox) : Type 0 where
  pub keys : length b.items ≡ 4
  pub title : IfSome (item_at Title b.items) IsInRangeItem
  pub year : IfSome (item_at Year b.items) IsInRangeItem
  pub poster : IfSome (item_at Poster b.items) IsInRangeItem
  pub summary : IfSome (item_at Summary b.items) IsInRangeItem

-- its items are well-formed
pub record IsWellFormedIlst (b : IlstBox) : Type 0 where
  pub title : IfSome (item_at Title b.items) IsWellFormedItem
  pub year : IfSome (item_at Year b.items) IsWellFormedItem
  pub poster : IfSome (item_at Poster b.items) IsWellFormedItem
  pub summary : IfSome (item_at Summary b.items) IsWellFormedItem

-- a list that is written and reads back equal
abbrev pub IsCanonicalIlst : IlstBox → Type 0
IsCanonicalIlst = IsCanonical IsInRangeIlst IsWellFormedIlst ilst_payload no_refusal

-- no items
abbrev pub default_ilst : IlstBox
default_ilst = record { items = None ∷ None ∷ None ∷ None ∷ [] }
