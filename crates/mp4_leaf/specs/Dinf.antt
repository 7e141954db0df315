-- Where the media of a track lies (ISO/IEC 14496-12, 8.7).
use Rattle.std.specs.Prelude.{ℕ, ◌^◌, ◌<◌, List, [], ◌∷◌, Option, Some, None, Result, Ok, IfSome}
use Rattle.mp4_codec.specs.declared.box_type.BoxType.TheVariants.{DrefBox as dref, UrlBox as url}
use Rattle.mp4_codec.specs.Cause.{Cause, ◌>>=◌}
use Rattle.mp4_codec.specs.Bytes.{number_at, until_zero, number, zeros, ◌⧺◌, HasNoZero}
use Rattle.mp4_codec.specs.Boxes.{box_bytes, optional, IsCanonical, no_refusal}
use Rattle.mp4_codec.specs.Early.{Early, early_gathered, early_last, at_once, refused_at_once, ◌and_then◌, ◌before◌}
use Rattle.mp4_codec.specs.Children.{children, gathered, fault_in, last_of, needed}
use Rattle.mp4_leaf.specs.declared.dinf.UrlBox.{UrlBox}
use Rattle.mp4_leaf.specs.declared.dinf.DrefBox.{DrefBox}
use Rattle.mp4_leaf.specs.declared.dinf.DinfBox.{DinfBox}

-- a text with a zero byte after it, but for the empty one
abbrev pub ended : List ℕ → List ℕ
ended [] = []
ended (b ∷ bs) = (b ∷ bs) ⧺ zeros 1

-- the reference that a payload holds; its location ends at the first zero byte, or at the end
unfoldable pub url_of : List ℕ → Result UrlBox Cause
url_of payload = do
  version ← number_at 1 payload
  flags ← number_at 3 version.1
  Ok (record { version = version.0; flags = flags.0; location = until_zero flags.1 })

abbrev pub url_early : List ℕ → Early
url_early payload = refused_at_once (url_of payload)

-- the payload that holds a reference
unfoldable pub url_payload : UrlBox → List ℕ
url_payload b = number 1 b.version ⧺ number 3 b.flags ⧺ ended b.location

-- each number is within its type
pub record IsInRangeUrl (b : UrlBox) : Type 0 where
  pub version : b.version < 2 ^ 8

-- flags have 24 bits, and no byte of the location is zero
pub record IsWellFormedUrl (b : UrlBox) : Type 0 where
  pub flags : b.flags < 2 ^ 24
  pub location : HasNoZero b.location

-- a reference that is written and reads back equal
abbrev pub IsCanonicalUrl : UrlBox → Type 0
IsCanonicalUrl = IsCanonical IsInRangeUrl IsWellFormedUrl url_payload no_refusal

-- media in the same file
abbrev pub default_url : UrlBox
default_url = record { version = 0; flags = 1; location = [] }

-- the references that a payload holds: the last "url " after a count that is not looked at
unfoldable pub dref_of : List ℕ → Result DrefBox Cause
dref_of payload = do
  version ← number_at 1 payload
  flags ← number_at 3 version.1
  count ← number_at 4 flags.1
  last_url ← gathered (fault_in url url_of) (last_of url url_of) (children count.1)
  Ok (record { version = version.0; flags = flags.0; url = last_url })

-- its fields, and then its children
unfoldable pub dref_early : List ℕ → Early
dref_early payload =
    number_at 1 payload before λ version.
    number_at 3 version.1 before λ flags.
    number_at 4 flags.1 before λ count.
    early_gathered (early_last url url_early) (children count.1)

-- how many references are written
abbrev pub count_of : Option UrlBox → ℕ
count_of None = 0
count_of (Some b) = 1

-- the payload that holds references
unfoldable pub dref_payload : DrefBox → List ℕ
dref_payload b = number 1 b.version ⧺ number 3 b.flags ⧺ number 4 (count_of b.url) ⧺ optional url url_payload b.url

-- each number is within its type
pub record IsInRangeDref (b : DrefBox) : Type 0 where
  pub version : b.version < 2 ^ 8
  pub url : IfSome b.url IsInRangeUrl

-- flags have 24 bits, and the reference is well-formed where there is one
pub record IsWellFormedDref (b : DrefBox) : Type 0 where
  pub flags : b.flags < 2 ^ 24
  pub url : IfSome b.url IsWellFormedUrl

-- references that is written and reads back equal
abbrev pub IsCanonicalDref : DrefBox → Type 0
IsCanonicalDref = IsCanonical IsInRangeDref IsWellFormedDref dref_payload no_refusal

-- one reference, to the same file
abbrev pub default_dref : DrefBox
default_dref = record { version = 0; flags = 0; url = Some default_url }

-- the data information that a payload holds: the last "dref" of its children
unfoldable pub dinf_of : List ℕ → Result DinfBox Cause
dinf_of payload = do
  last_dref ← gathered (fault_in dref dref_of) (last_of dref dref_of) (children payload)
  references ← needed dref last_dref
  Ok (record { dref = references })

unfoldable pub dinf_early : List ℕ → Early
dinf_early payload = early_gathered (early_last dref dref_early) (children payload) and_then at_once (dinf_of payload)

-- the payload that holds data information
unfoldable pub dinf_payload : DinfBox → List ℕ
dinf_payload b = box_bytes dref (dref_payload b.dref)

-- each number is within its type
pub record IsInRangeDinf (b : DinfBox) : Type 0 where
  pub dref : IsInRangeDref b.dref

-- its references are well-formed
abbrev pub IsWellFormedDinf : DinfBox → Type 0
IsWellFormedDinf b = IsWellFormedDref b.dref

-- data information that is written and reads back equal
abbrev pub IsCanonicalDinf : DinfBox → Type 0
IsCanonicalDinf = IsCanonical IsInRangeDinf IsWellFormedDinf dinf_payload no_refusal

abbrev pub default_dinf : DinfBox
default_dinf = record { dref = default_dref }
