-- The codes of the types of boxes.
use Rattle.std.specs.Prelude.{◌≡◌, ℕ, List, [], ◌∷◌, ◌==◌, if◌then◌else◌}
use Rattle.mp4_codec.specs.declared.box_type.BoxType.{BoxType}
use Rattle.mp4_codec.specs.declared.box_type.BoxType.TheVariants.{FtypBox, MvhdBox, MfhdBox, FreeBox, MdatBox}
use Rattle.mp4_codec.specs.declared.box_type.BoxType.TheVariants.{MoovBox, MvexBox, MehdBox, TrexBox, EmsgBox}
use Rattle.mp4_codec.specs.declared.box_type.BoxType.TheVariants.{MoofBox, TkhdBox, TfhdBox, TfdtBox, EdtsBox}
use Rattle.mp4_codec.specs.declared.box_type.BoxType.TheVariants.{MdiaBox, ElstBox, MdhdBox, HdlrBox, MinfBox}
use Rattle.mp4_codec.specs.declared.box_type.BoxType.TheVariants.{VmhdBox, StblBox, StsdBox, SttsBox, CttsBox}
use Rattle.mp4_codec.specs.declared.box_type.BoxType.TheVariants.{StssBox, StscBox, StszBox, StcoBox, Co64Box}
use Rattle.mp4_codec.specs.declared.box_type.BoxType.TheVariants.{TrakBox, TrafBox, TrunBox, UdtaBox, MetaBox}
use Rattle.mp4_codec.specs.declared.box_type.BoxType.TheVariants.{DinfBox, DrefBox, SmhdBox, Avc1Box, Hev1Box}
use Rattle.mp4_codec.specs.declared.box_type.BoxType.TheVariants.{Mp4aBox, EsdsBox, Tx3gBox, Vp09Box, DataBox}
use Rattle.mp4_codec.specs.declared.box_type.BoxType.TheVariants.{IlstBox, CovrBox, DescBox, WideBox, WaveBox, UrlBox}
use Rattle.mp4_codec.specs.declared.box_type.BoxType.TheVariants.{AvcCBox, HvcCBox, VpccBox, NameBox, DayBox}
use Rattle.mp4_codec.specs.declared.box_type.BoxType.TheVariants.{UnknownBox}

-- the four bytes of a type, as a number
abbrev pub code_of : BoxType → ℕ
code_of FtypBox = 0x66747970
code_of MvhdBox = 0x6d766864
code_of MfhdBox = 0x6d666864
code_of FreeBox = 0x66726565
code_of MdatBox = 0x6d646174
code_of MoovBox = 0x6d6f6f76
code_of MvexBox = 0x6d766578
code_of MehdBox = 0x6d656864
code_of TrexBox = 0x74726578
code_of EmsgBox = 0x656d7367
code_of MoofBox = 0x6d6f6f66
code_of TkhdBox = 0x746b6864
code_of TfhdBox = 0x74666864
code_of TfdtBox = 0x74666474
code_of EdtsBox = 0x65647473
code_of MdiaBox = 0x6d646961
code_of ElstBox = 0x656c7374
code_of MdhdBox = 0x6d646864
code_of HdlrBox = 0x68646c72
code_of MinfBox = 0x6d696e66
code_of VmhdBox = 0x766d6864
code_of StblBox = 0x7374626c
code_of StsdBox = 0x73747364
code_of SttsBox = 0x73747473
code_of CttsBox = 0x63747473
code_of StssBox = 0x73747373
code_of StscBox = 0x73747363
code_of StszBox = 0x7374737a
code_of StcoBox = 0x7374636f
code_of Co64Box = 0x636f3634
code_of TrakBox = 0x7472616b
code_of TrafBox = 0x74726166
code_of TrunBox = 0x7472756e
code_of UdtaBox = 0x75647461
code_of MetaBox = 0x6d657461
code_of DinfBox = 0x64696e66
code_of DrefBox = 0x64726566
code_of SmhdBox = 0x736d6864
code_of Avc1Box = 0x61766331
code_of Hev1Box = 0x68657631
code_of Mp4aBox = 0x6d703461
code_of EsdsBox = 0x65736473
code_of Tx3gBox = 0x74783367
code_of Vp09Box = 0x76703039
code_of DataBox = 0x64617461
code_of IlstBox = 0x696c7374
code_of CovrBox = 0x636f7672
code_of DescBox = 0x64657363
code_of WideBox = 0x77696465
code_of WaveBox = 0x77617665
code_of UrlBox = 0x75726c20
code_of AvcCBox = 0x61766343
code_of HvcCBox = 0x68766343
code_of VpccBox = 0x76706343
code_of NameBox = 0xa96e616d
code_of DayBox = 0xa9646179
code_of (UnknownBox code) = code

-- the types that have a name
abbrev pub named : List BoxType
named = FtypBox ∷ MvhdBox ∷ MfhdBox ∷ FreeBox ∷ MdatBox ∷ MoovBox ∷ MvexBox ∷ MehdBox ∷ TrexBox ∷ EmsgBox ∷ MoofBox
    ∷ TkhdBox ∷ TfhdBox ∷ TfdtBox ∷ EdtsBox ∷ MdiaBox ∷ ElstBox ∷ MdhdBox ∷ HdlrBox ∷ MinfBox ∷ VmhdBox ∷ StblBox
    ∷ StsdBox ∷ SttsBox ∷ CttsBox ∷ StssBox ∷ StscBox ∷ StszBox ∷ StcoBox ∷ Co64Box ∷ TrakBox ∷ TrafBox ∷ TrunBox
    ∷ UdtaBox ∷ MetaBox ∷ DinfBox ∷ DrefBox ∷ SmhdBox ∷ Avc1Box ∷ Hev1Box ∷ Mp4aBox ∷ EsdsBox ∷ Tx3gBox ∷ Vp09Box
    ∷ DataBox ∷ IlstBox ∷ CovrBox ∷ DescBox ∷ WideBox ∷ WaveBox ∷ UrlBox ∷ AvcCBox ∷ HvcCBox ∷ VpccBox ∷ NameBox
    ∷ DayBox ∷ []

-- the first of the types with this code, or the unknown one
abbrev pub among : List BoxType → ℕ → BoxType
among [] code = UnknownBox code
among (t ∷ ts) code = if code == code_of t then t else among ts code

-- the type with this code
unfoldable pub box_type : ℕ → BoxType
box_type code = among named code

-- a type that has a name is not encoded as an unknown one
abbrev pub IsNamed : BoxType → Type 0
IsNamed t = box_type (code_of t) ≡ t
