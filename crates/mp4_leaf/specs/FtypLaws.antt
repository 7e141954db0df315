-- A file type is read as it was written.
use Rattle.std.proofs.Common.{◌≡◌, ◌+◌, ◌/◌, List, length, Ok, refl, arith}
use Rattle.std.specs.List.{flat_map}
use Rattle.mp4_codec.specs.Bytes.{four_cc_at, four_cc, IsCode, ReadsBack}
use Rattle.mp4_codec.specs.FieldLaws.{number_again, four_cc_again, list_last, length-number}
use Rattle.mp4_codec.specs.FieldLaws.{length-four_cc, length-then}
use Rattle.mp4_codec.specs.ListLaws.{length-flat_map-same}
use Rattle.mp4_codec.specs.declared.four_cc.FourCC.{FourCC}
use Rattle.mp4_leaf.specs.declared.ftyp.FtypBox.{FtypBox}
use Rattle.mp4_leaf.specs.Ftyp.{ftyp_of, ftyp_payload, IsCanonicalFtyp}

pub length-ftyp_payload : (b : FtypBox) → length (ftyp_payload b) ≡ 8 + length (flat_map four_cc b.compatible_brands)
unfolding ftyp_payload
length-ftyp_payload b = simp (length-then, length-number, length-four_cc) (omega arith)

-- there is room for just the codes that are there
room : (codes : List FourCC) → length codes ≡ length (flat_map four_cc codes) / 4
room codes = rw (length-flat_map-same four_cc 4 length-four_cc codes) (omega arith)

pub ftyp_again : (b : FtypBox) → IsCanonicalFtyp b → ftyp_of (ftyp_payload b) ≡ Ok b
unfolding ftyp_of ftyp_payload
ftyp_again b f =
    let back : ReadsBack four_cc_at four_cc IsCode = record { again = four_cc_again } in
    rw (
      four_cc_again b.major_brand _ f.in_range.major_brand,
      number_again 4 b.minor_version _ f.in_range.minor_version,
      list_last four_cc_at four_cc IsCode back _ b.compatible_brands (room b.compatible_brands)
          f.in_range.compatible_brands,
    ) refl
