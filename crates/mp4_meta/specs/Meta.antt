-- Metadata (ISO/IEC 14496-12, 8.11.1).
use Rattle.std.specs.Prelude.{◌≡◌, ◌^◌, ◌<◌, ◌==◌, ℕ, Bool, false, not, List, [], ◌∷◌, ◌++◌, Option, None}
use Rattle.std.specs.Prelude.{Result, Ok, Err, IfSome, if◌then◌else◌}
use Rattle.std.specs.Int.{w32, from_be_bytes}
use Rattle.std.specs.List.{AllByRecursion, filter, flat_map}
use Rattle.mp4_codec.specs.declared.box_type.BoxType.TheVariants.{HdlrBox as hdlr, IlstBox as ilst, MetaBox as meta}
use Rattle.mp4_codec.specs.BoxType.{code_of, IsNamed}
use Rattle.mp4_codec.specs.Cause.{Cause, unsupported_version, ◌>>=◌, seen}
use Rattle.mp4_codec.specs.Bytes.{number_at, zeros, ◌⧺◌, coded}
use Rattle.mp4_codec.specs.Boxes.{box_bytes, optional, no_refusal, IsCanonical}
use Rattle.mp4_codec.specs.Early.{Early, succeeds, takes_memory, early_gathered, early_last, ◌before◌}
use Rattle.mp4_codec.specs.Children.{ChildBox, children, gathered, is_of, fault_in, last_of, needed}
use Rattle.mp4_codec.specs.declared.four_cc.FourCC.{FourCC}
use Rattle.mp4_leaf.specs.declared.hdlr.HdlrBox.{HdlrBox}
use Rattle.mp4_leaf.specs.Hdlr.{hdlr_of, hdlr_payload, IsInRangeHdlr, IsWellFormedHdlr, default_hdlr}
use Rattle.mp4_meta.specs.declared.meta.MetaBox.{MetaBox}
use Rattle.mp4_meta.specs.declared.meta.MetaBox.TheVariants.{Mdir, Unknown}
use Rattle.mp4_meta.specs.declared.meta.OtherChildren.{OtherChildren}
use Rattle.mp4_meta.specs.Ilst.{ilst_of, ilst_early, ilst_payload, IsInRangeIlst, IsWellFormedIlst}

-- the bytes begin with the type hdlr
abbrev pub names_hdlr : List ℕ → Bool
names_hdlr bytes = named (number_at 4 bytes)
  where
    named : Result (ℕ × List ℕ) Cause → Bool
    named (Ok code) = code.0 == code_of hdlr
    named (Err c) = false

-- The part of a payload that holds the children: what is after four zero bytes, or the whole payload where its
-- second four bytes are the type of a hdlr. Anything else is a version that is not known.
unfoldable pub meta_body : List ℕ → Result (List ℕ) Cause
meta_body payload = do
  first ← number_at 4 payload
  if first.0 == 0 then Ok first.1 else
      if names_hdlr first.1 then Ok payload else
      (number_at 1 payload >>= λ version. Err (unsupported_version meta version.0))

-- the handler type mdir
abbrev pub mdir : ℕ
mdir = 0x6d646972

abbrev pub is_mdir : HdlrBox → Bool
is_mdir handler = from_be_bytes w32 handler.handler_type.value == mdir

-- the handler that is written for it
abbrev pub mdir_handler : HdlrBox
mdir_handler = record default_hdlr { handler_type = coded mdir }

-- the children that are not the handler
unfoldable pub others : List ChildBox → List ChildBox
others cs = filter (λ c. not (is_of hdlr c)) cs

-- the same with one child more
unfoldable pub others_added : OtherChildren → ChildBox → Result OtherChildren Cause
others_added p c = if is_of hdlr c then Ok p else Ok (record { children = p.children ++ c ∷ [] })

-- children that are copied take memory
abbrev pub others_early : ChildBox → Early
others_early c = if is_of hdlr c then succeeds else takes_memory

-- no child is refused
abbrev pub no_fault : ChildBox → Option Cause
no_fault c = None

-- the type of a handler, and that which a handler's payload says
abbrev pub handler_type_in : HdlrBox → FourCC
handler_type_in handler = handler.handler_type

abbrev pub type_in : List ℕ → Result FourCC Cause
type_in payload = seen handler_type_in (hdlr_of payload)

-- the type of the last handler among children
abbrev pub last_type : List ℕ → Result (Option FourCC) Cause
last_type body = gathered (fault_in hdlr type_in) (last_of hdlr type_in) (children body)

-- the same, where one has to be there
abbrev pub last_handler_type : List ℕ → Result FourCC Cause
last_handler_type body = last_type body >>= needed hdlr

-- the handler among children: the last one, which has to be there
abbrev pub last_handler : List ℕ → Result HdlrBox Cause
last_handler body = gathered (fault_in hdlr hdlr_of) (last_of hdlr hdlr_of) (children body) >>= needed hdlr

-- the metadata of a handler: with mdir the last list of items, with any other all children but the handler
abbrev pub meta_with : List ℕ → HdlrBox → Result MetaBox Cause
meta_with body handler =
    if is_mdir handler
    then (gathered (fault_in ilst ilst_of) (last_of ilst ilst_of) (children body) >>= λ list. Ok (Mdir list))
    else (gathered no_fault others (children body) >>= λ cs. Ok (Unknown handler cs))

-- The metadata that a payload holds: a handler has to be there. With handler mdir it is the last list of items; with
-- any other handler all children but the handler, as they are.
unfoldable pub meta_of : List ℕ → Result MetaBox Cause
meta_of payload = do
  body ← meta_body payload
  handler ← last_handler body
  meta_with body handler

-- what the children of a handler show before memory is requested
abbrev pub early_with : List ℕ → HdlrBox → Early
early_with body handler =
    if is_mdir handler then early_gathered (early_last ilst ilst_early) (children body) else takes_memory

-- what a payload shows before memory is requested: its form, each handler, and with mdir the list of items
unfoldable pub meta_early : List ℕ → Early
meta_early payload = meta_body payload before λ body. last_handler body before λ handler. early_with body handler

-- the boxes of these children, one after the other
unfoldable pub child_box_bytes : List ChildBox → List ℕ
child_box_bytes cs = flat_map (λ c. box_bytes c.0 c.1) cs

-- the payload that holds metadata
unfoldable pub meta_payload : MetaBox → List ℕ
meta_payload (Mdir list) = zeros 4 ⧺ box_bytes hdlr (hdlr_payload mdir_handler) ⧺ optional ilst ilst_payload list
meta_payload (Unknown handler cs) = zeros 4 ⧺ box_bytes hdlr (hdlr_payload handler) ⧺ child_box_bytes cs

-- the code of a child's type has 32 bits
abbrev pub HasCode : ChildBox → Type 0
HasCode c = code_of c.0 < 2 ^ 32

-- each number is within its type
abbrev pub IsInRangeMeta : MetaBox → Type 0
IsInRangeMeta (Mdir list) = IfSome list IsInRangeIlst
IsInRangeMeta (Unknown handler cs) = IsInRangeHdlr handler × AllByRecursion HasCode cs

-- a child that is not the handler, and whose type is no named type encoded as an unknown one
abbrev pub IsOther : ChildBox → Type 0
IsOther c = (is_of hdlr c ≡ false) × IsNamed c.0

-- its children are well-formed; unknown metadata is not of handler mdir
abbrev pub IsWellFormedMeta : MetaBox → Type 0
IsWellFormedMeta (Mdir list) = IfSome list IsWellFormedIlst
IsWellFormedMeta (Unknown handler cs) = IsWellFormedHdlr handler × (is_mdir handler ≡ false) × AllByRecursion IsOther cs

-- metadata that is written and reads back equal
abbrev pub IsCanonicalMeta : MetaBox → Type 0
IsCanonicalMeta = IsCanonical IsInRangeMeta IsWellFormedMeta meta_payload no_refusal

-- metadata of a default handler, without other children
abbrev pub default_meta : MetaBox
default_meta = Unknown default_hdlr []
