-- The boxes that the reading of a box looks at (ISO/IEC 14496-12, 4.2 and the section of each container).
use Rattle.std.specs.Prelude.{◌≡◌, ℕ, List, [], ◌∷◌, drop, Option, Some, None, Result, Ok, Err, Bool, false, ◌==◌}
use Rattle.std.specs.Prelude.{if◌then◌else◌}
use Rattle.std.specs.List.{list_any}
use Rattle.mp4_codec.specs.declared.box_type.BoxType.{BoxType}
use Rattle.mp4_codec.specs.declared.box_type.BoxType.TheVariants.{MoovBox, MvhdBox, TrakBox, MvexBox, MetaBox}
use Rattle.mp4_codec.specs.declared.box_type.BoxType.TheVariants.{UdtaBox, TkhdBox, EdtsBox, MdiaBox, ElstBox}
use Rattle.mp4_codec.specs.declared.box_type.BoxType.TheVariants.{MdhdBox, HdlrBox, MinfBox, VmhdBox, SmhdBox}
use Rattle.mp4_codec.specs.declared.box_type.BoxType.TheVariants.{DinfBox, StblBox, DrefBox, UrlBox, StsdBox, SttsBox}
use Rattle.mp4_codec.specs.declared.box_type.BoxType.TheVariants.{CttsBox, StssBox, StscBox, StszBox, StcoBox}
use Rattle.mp4_codec.specs.declared.box_type.BoxType.TheVariants.{Co64Box, Avc1Box, Hev1Box, Vp09Box, Mp4aBox}
use Rattle.mp4_codec.specs.declared.box_type.BoxType.TheVariants.{Tx3gBox, AvcCBox, HvcCBox, VpccBox, EsdsBox}
use Rattle.mp4_codec.specs.declared.box_type.BoxType.TheVariants.{MehdBox, TrexBox, MoofBox, MfhdBox, TrafBox}
use Rattle.mp4_codec.specs.declared.box_type.BoxType.TheVariants.{TfhdBox, TfdtBox, TrunBox, IlstBox, NameBox, DayBox}
use Rattle.mp4_codec.specs.declared.box_type.BoxType.TheVariants.{CovrBox, DescBox, DataBox}
use Rattle.mp4_codec.specs.declared.error.Error.{Error}
use Rattle.mp4_codec.specs.declared.error.Error.TheVariants.{OutOfMemory}
use Rattle.mp4_codec.specs.BoxType.{code_of}
use Rattle.mp4_codec.specs.Bytes.{bytes_at, number_at}
use Rattle.mp4_codec.specs.Cause.{Cause, ◌>>=◌}
use Rattle.mp4_codec.specs.Children.{children, gathered, fault_in, last_of}
use Rattle.mp4_leaf.specs.declared.hdlr.HdlrBox.{HdlrBox as Handler}
use Rattle.mp4_leaf.specs.Hdlr.{hdlr_of}
use Rattle.mp4_meta.specs.Meta.{names_hdlr, is_mdir}

-- whether a type is one of these, by their codes
abbrev pub is_one_of : BoxType → List BoxType → Bool
is_one_of name types = list_any (λ t. code_of t == code_of name) types

-- the types of the children that are looked at in a box of a fragment or of metadata
unfoldable pub read_by_other : BoxType → List BoxType
read_by_other MvexBox = MehdBox ∷ TrexBox ∷ []
read_by_other MoofBox = MfhdBox ∷ TrafBox ∷ []
read_by_other TrafBox = TfhdBox ∷ TfdtBox ∷ TrunBox ∷ []
read_by_other UdtaBox = MetaBox ∷ []
read_by_other MetaBox = HdlrBox ∷ IlstBox ∷ []
read_by_other IlstBox = NameBox ∷ DayBox ∷ CovrBox ∷ DescBox ∷ []
read_by_other NameBox = DataBox ∷ []
read_by_other DayBox = DataBox ∷ []
read_by_other CovrBox = DataBox ∷ []
read_by_other DescBox = DataBox ∷ []
read_by_other other = []

-- the same in a box of a sample table or a sample entry, and in those above
unfoldable pub read_by_table : BoxType → List BoxType
read_by_table StblBox = StsdBox ∷ SttsBox ∷ CttsBox ∷ StssBox ∷ StscBox ∷ StszBox ∷ StcoBox ∷ Co64Box ∷ []
read_by_table StsdBox = Avc1Box ∷ Hev1Box ∷ Vp09Box ∷ Mp4aBox ∷ Tx3gBox ∷ []
read_by_table Avc1Box = AvcCBox ∷ []
read_by_table Hev1Box = HvcCBox ∷ []
read_by_table Vp09Box = VpccBox ∷ []
read_by_table Mp4aBox = EsdsBox ∷ []
read_by_table other = read_by_other other

-- the same in any box
unfoldable pub read_by : BoxType → List BoxType
read_by MoovBox = MvhdBox ∷ TrakBox ∷ MvexBox ∷ MetaBox ∷ UdtaBox ∷ []
read_by TrakBox = TkhdBox ∷ EdtsBox ∷ MetaBox ∷ MdiaBox ∷ []
read_by EdtsBox = ElstBox ∷ []
read_by MdiaBox = MdhdBox ∷ HdlrBox ∷ MinfBox ∷ []
read_by MinfBox = VmhdBox ∷ SmhdBox ∷ DinfBox ∷ StblBox ∷ []
read_by DinfBox = DrefBox ∷ []
read_by DrefBox = UrlBox ∷ []
read_by other = read_by_table other

-- whether the reading of a box looks at its children of this type
abbrev pub reads : BoxType → BoxType → Bool
reads parent child = is_one_of child (read_by parent)

-- Whether the first child alone is looked at: of a sample description it is the first entry (8.5.2), of edits the
-- edit list (8.6.5).
abbrev pub first_alone : BoxType → Bool
first_alone parent = is_one_of parent (StsdBox ∷ EdtsBox ∷ [])

-- where the children of metadata begin: after version and flags, or with the handler, as QuickTime has it
abbrev pub after_first : Result (ℕ × List ℕ) Cause → Option ℕ
after_first (Ok first) = if first.0 == 0 then Some 4 else if names_hdlr first.1 then Some 0 else None
after_first (Err c) = None

abbrev pub before_metadata : List ℕ → Option ℕ
before_metadata payload = after_first (number_at 4 payload)

-- where the children of a sound's sample entry of this version begin (12.2.3, and QuickTime's version 1)
abbrev pub after_sound : Result (ℕ × List ℕ) Cause → Option ℕ
after_sound (Ok version) = if version.0 == 0 then Some 28 else if version.0 == 1 then Some 44 else None
after_sound (Err c) = None

abbrev pub before_sound : List ℕ → Option ℕ
before_sound payload = after_sound (bytes_at 8 payload >>= λ skipped. number_at 2 skipped.1)

-- where the children of a box begin in its payload, if it has children that are looked at
unfoldable pub before_children : BoxType → List ℕ → Option ℕ
before_children MetaBox payload = before_metadata payload
before_children Mp4aBox payload = before_sound payload
before_children StsdBox payload = Some 8
before_children DrefBox payload = Some 8
before_children Avc1Box payload = Some 78
before_children Hev1Box payload = Some 78
before_children Vp09Box payload = Some 78
before_children MoovBox payload = Some 0
before_children TrakBox payload = Some 0
before_children EdtsBox payload = Some 0
before_children MdiaBox payload = Some 0
before_children MinfBox payload = Some 0
before_children DinfBox payload = Some 0
before_children StblBox payload = Some 0
before_children MvexBox payload = Some 0
before_children MoofBox payload = Some 0
before_children TrafBox payload = Some 0
before_children UdtaBox payload = Some 0
before_children IlstBox payload = Some 0
before_children NameBox payload = Some 0
before_children DayBox payload = Some 0
before_children CovrBox payload = Some 0
before_children DescBox payload = Some 0
before_children other payload = None

-- whether the handler that was found among the children of metadata says that its items are read
abbrev pub is_of_items : Result (Option Handler) Cause → Bool
is_of_items (Ok (Some handler)) = is_mdir handler
is_of_items (Ok None) = false
is_of_items (Err c) = false

-- the last handler among children; each is read, and a broken tail is refused
abbrev pub handler_in : List ℕ → Result (Option Handler) Cause
handler_in body = gathered (fault_in HdlrBox hdlr_of) (last_of HdlrBox hdlr_of) (children body)

abbrev pub has_items : Option ℕ → List ℕ → Bool
has_items (Some start) payload = is_of_items (handler_in (drop start payload))
has_items None payload = false

-- Whether the lists of items in a box of this type and payload are looked at: in metadata they are where its children
-- are boxes and its handlers have no fault, and the last of these is of type mdir (8.11.1).
unfoldable pub reads_items : BoxType → List ℕ → Bool
reads_items MetaBox payload = has_items (before_metadata payload) payload
reads_items other payload = false

-- whether the reading of a box of this type, whose items are looked at or not, looks at its children of this type
abbrev pub reads_with : BoxType → Bool → BoxType → Bool
reads_with parent items child = if is_one_of child (IlstBox ∷ []) then items else reads parent child

-- What a call says of whether items are looked at; or memory ran out.
abbrev pub TellsItems : Bool → Result Bool Error → Type 0
TellsItems items (Ok told) = told ≡ items
TellsItems items (Err e) = e ≡ OutOfMemory
