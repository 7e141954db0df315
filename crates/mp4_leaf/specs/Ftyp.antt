-- The file type (ISO/IEC 14496-12, 4.3).
use Rattle.std.specs.Prelude.{ℕ, ◌/◌, ◌^◌, ◌<◌, List, [], length, Result, Ok, replicate}
use Rattle.std.specs.List.{flat_map, AllByRecursion}
use Rattle.mp4_codec.specs.Cause.{Cause, ◌>>=◌}
use Rattle.mp4_codec.specs.Bytes.{number_at, four_cc_at, list_at, number, four_cc, ◌⧺◌, IsCode}
use Rattle.mp4_leaf.specs.declared.ftyp.FtypBox.{FtypBox}
use Rattle.mp4_codec.specs.Boxes.{IsCanonical, no_refusal}

-- the file type that a payload holds: brands to the end, as many as have their four bytes
unfoldable pub ftyp_of : List ℕ → Result FtypBox Cause
ftyp_of payload = do
  major_brand ← four_cc_at payload
  minor_version ← number_at 4 major_brand.1
  compatible_brands ← list_at four_cc_at (length minor_version.1 / 4) minor_version.1
  Ok (record { major_brand = major_brand.0; minor_version = minor_version.0; compatible_brands = compatible_brands.0 })

-- the payload that holds a file type
unfoldable pub ftyp_payload : FtypBox → List ℕ
ftyp_payload b = four_cc b.major_brand ⧺ number 4 b.minor_version ⧺ flat_map four_cc b.compatible_brands

-- each number is within its type
pub record IsInRangeFtyp (b : FtypBox) : Type 0 where
  pub major_brand : IsCode b.major_brand
  pub minor_version : b.minor_version < 2 ^ 32
  pub compatible_brands : AllByRecursion IsCode b.compatible_brands

-- the layout asks nothing more
abbrev pub IsWellFormedFtyp : FtypBox → Type 0
IsWellFormedFtyp b = Unit {0}

-- a file type that is written and reads back equal
abbrev pub IsCanonicalFtyp : FtypBox → Type 0
IsCanonicalFtyp = IsCanonical IsInRangeFtyp IsWellFormedFtyp ftyp_payload no_refusal

-- a brand of zeros and no other
abbrev pub default_ftyp : FtypBox
default_ftyp = record { major_brand = record { value = replicate 4 0 }; minor_version = 0; compatible_brands = [] }
