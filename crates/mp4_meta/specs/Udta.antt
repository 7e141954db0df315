-- User data (ISO/IEC 14496-12, 8.10.1).
use Rattle.std.specs.Prelude.{ℕ, List, None, Result, Ok, IfSome}
use Rattle.mp4_codec.specs.declared.box_type.BoxType.TheVariants.{MetaBox as meta}
use Rattle.mp4_codec.specs.Cause.{Cause, ◌>>=◌}
use Rattle.mp4_codec.specs.Boxes.{optional, no_refusal, IsCanonical}
use Rattle.mp4_codec.specs.Early.{Early, early_gathered, early_last}
use Rattle.mp4_codec.specs.Children.{children, gathered, fault_in, last_of}
use Rattle.mp4_meta.specs.declared.udta.UdtaBox.{UdtaBox}
use Rattle.mp4_meta.specs.Meta.{meta_of, meta_early, meta_payload, IsInRangeMeta, IsWellFormedMeta}

-- the user data that a payload holds: the last metadata
unfoldable pub udta_of : List ℕ → Result UdtaBox Cause
udta_of payload = do
  last ← gathered (fault_in meta meta_of) (last_of meta meta_of) (children payload)
  Ok (record { meta = last })

-- what a payload shows before memory is requested: its children
unfoldable pub udta_early : List ℕ → Early
udta_early payload = early_gathered (early_last meta meta_early) (children payload)

-- the payload that holds user data
unfoldable pub udta_payload : UdtaBox → List ℕ
udta_payload b = optional meta meta_payload b.meta

-- each number is within its type
pub record IsInRangeUdta (b : UdtaBox) : Type 0 where
  pub meta : IfSome b.meta IsInRangeMeta

-- its metadata is well-formed
pub record IsWellFormedUdta (b : UdtaBox) : Type 0 where
  pub meta : IfSome b.meta IsWellFormedMeta

-- user data that is written and reads back equal
abbrev pub IsCanonicalUdta : UdtaBox → Type 0
IsCanonicalUdta = IsCanonical IsInRangeUdta IsWellFormedUdta udta_payload no_refusal

-- no metadata
abbrev pub default_udta : UdtaBox
default_udta = record { meta = None }
