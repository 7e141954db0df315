-- Why a container is refused: by the first of its children, or by what it lacks (ISO/IEC 14496-12, 4.2 and the section
-- of each container, which says which boxes are mandatory in it).
use Rattle.std.specs.Prelude.{ℕ, List, [], ◌∷◌, map, Option, Some, None, Bool, ◌||◌, if◌then◌else◌}
use Rattle.mp4_codec.specs.declared.box_type.BoxType.{BoxType}
use Rattle.mp4_codec.specs.declared.box_type.BoxType.TheVariants.{MoovBox, MvhdBox, TrakBox, TkhdBox, MdiaBox}
use Rattle.mp4_codec.specs.declared.box_type.BoxType.TheVariants.{MdhdBox, HdlrBox, MinfBox, DinfBox, StblBox}
use Rattle.mp4_codec.specs.declared.box_type.BoxType.TheVariants.{DrefBox, StsdBox, SttsBox, StscBox, StszBox}
use Rattle.mp4_codec.specs.declared.box_type.BoxType.TheVariants.{StcoBox, Co64Box, Avc1Box, Hev1Box, Vp09Box}
use Rattle.mp4_codec.specs.declared.box_type.BoxType.TheVariants.{Mp4aBox, AvcCBox, HvcCBox, VpccBox, EsdsBox}
use Rattle.mp4_codec.specs.declared.box_type.BoxType.TheVariants.{MvexBox, TrexBox, MoofBox, MfhdBox, TrafBox}
use Rattle.mp4_codec.specs.declared.box_type.BoxType.TheVariants.{TfhdBox, MetaBox, NameBox, DayBox, CovrBox}
use Rattle.mp4_codec.specs.declared.box_type.BoxType.TheVariants.{DescBox, DataBox, WaveBox}
use Rattle.mp4_codec.specs.Cause.{Cause, invalid_data, box_not_found, box2_not_found, fault_of, ◌>>=◌, ◌or◌}
use Rattle.mp4_codec.specs.Children.{ChildBox, children, first_fault, tail_fault}
use Rattle.mp4_entry.specs.Mp4a.{last_payload, wave_esds}
use Rattle.mp4_faults.specs.Containers.{is_one_of, reads_with, reads_items, first_alone}
use Rattle.mp4_faults.specs.Refusal.{payload_fault}

-- why a child is refused in a container of this type, whose items are looked at or not, if the child is looked at
abbrev pub fault_with : BoxType → Bool → ChildBox → Option Cause
fault_with parent items c = if reads_with parent items c.0 then payload_fault c.0 c.1 else None

-- why a child is refused in a container of this type and payload
abbrev pub child_fault : BoxType → List ℕ → ChildBox → Option Cause
child_fault parent payload c = fault_with parent (reads_items parent payload) c

-- of children and the tail after them the first child alone, where there is one
abbrev pub first_only : List ChildBox × List ℕ → List ChildBox × List ℕ
first_only list = of list.0 list.1
  where
    of : List ChildBox → List ℕ → List ChildBox × List ℕ
    of [] tail = ([], tail)
    of (c ∷ cs) tail = (c ∷ [], [])

-- the children that a part of a payload holds, and the tail after them, as far as a container looks at them
abbrev pub looked_at : BoxType → List ℕ → List ChildBox × List ℕ
looked_at parent body = if first_alone parent then first_only (children body) else children body

-- the types of children
abbrev pub types_in : List ChildBox → List BoxType
types_in cs = map (λ (c : ChildBox). c.0) cs

-- the first of the types that are needed which is none of the children's
unfoldable pub lacking : List BoxType → List BoxType → Option Cause
lacking [] types = None
lacking (t ∷ needed) types = (if is_one_of t types then None else Some (box_not_found t)) or lacking needed types

-- the places of chunks, in 32 bits or in 64
abbrev pub lacking_places : List BoxType → Option Cause
lacking_places types =
    if is_one_of StcoBox types || is_one_of Co64Box types then None else Some (box2_not_found StcoBox Co64Box)

-- the configuration of a decoder
abbrev pub lacking_config : BoxType → List BoxType → Option Cause
lacking_config t types = if is_one_of t types then None else Some invalid_data

-- The mandatory box that a container of this type lacks, if it has children of these types.
unfoldable pub missing : BoxType → List BoxType → Option Cause
missing MoovBox types = lacking (MvhdBox ∷ []) types
missing TrakBox types = lacking (TkhdBox ∷ MdiaBox ∷ []) types
missing MdiaBox types = lacking (MdhdBox ∷ HdlrBox ∷ MinfBox ∷ []) types
missing MinfBox types = lacking (DinfBox ∷ StblBox ∷ []) types
missing DinfBox types = lacking (DrefBox ∷ []) types
missing StblBox types = lacking (StsdBox ∷ SttsBox ∷ StscBox ∷ StszBox ∷ []) types or lacking_places types
missing Avc1Box types = lacking_config AvcCBox types
missing Hev1Box types = lacking_config HvcCBox types
missing Vp09Box types = lacking_config VpccBox types
missing MvexBox types = lacking (TrexBox ∷ []) types
missing MoofBox types = lacking (MfhdBox ∷ []) types
missing TrafBox types = lacking (TfhdBox ∷ []) types
missing MetaBox types = lacking (HdlrBox ∷ []) types
missing NameBox types = lacking (DataBox ∷ []) types
missing DayBox types = lacking (DataBox ∷ []) types
missing CovrBox types = lacking (DataBox ∷ []) types
missing DescBox types = lacking (DataBox ∷ []) types
missing other types = None

-- What refuses a container whose children are in this part of its payload, none of which is refused: that it lacks a
-- box; a sound's sample entry without an esds is refused by that in its last `wave` (the QuickTime file format).
unfoldable pub after_children : BoxType → List ℕ → Option Cause
after_children Mp4aBox body =
    if is_one_of EsdsBox (types_in (children body).0) then None else fault_of (last_payload WaveBox body >>= wave_esds)
after_children other body = missing other (types_in (children body).0)

-- why a container is refused whose children are in this part of its payload
abbrev pub container_fault : BoxType → List ℕ → List ℕ → Option Cause
container_fault parent payload body =
    first_fault (child_fault parent payload) (looked_at parent body).0 (looked_at parent body).1
    or after_children parent body

-- the same where none of its children is refused
abbrev pub own_fault : BoxType → List ℕ → Option Cause
own_fault parent body = tail_fault (looked_at parent body).1 or after_children parent body
