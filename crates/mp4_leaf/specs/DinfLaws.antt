-- What says where the media lies is read as it was written.
use Rattle.std.proofs.Common.{◌≡◌, ℕ, ◌+◌, ◌^◌, ◌<◌, List, [], ◌∷◌, length, Option, Some, None, Ok, refl, arith}
use Rattle.std.specs.Prelude.{IfSome}
use Rattle.std.specs.List.{AllByRecursion}
use Rattle.std.specs.Option.{option_to_list}
use Rattle.mp4_codec.specs.declared.box_type.BoxType.TheVariants.{DrefBox as dref, UrlBox as url}
use Rattle.mp4_codec.specs.BoxType.{box_type}
use Rattle.mp4_codec.specs.Bytes.{until_zero, HasNoZero}
use Rattle.mp4_codec.specs.Boxes.{optional}
use Rattle.mp4_codec.specs.Framing.{IsEncodable}
use Rattle.mp4_codec.specs.FramingLaws.{length-box_bytes}
use Rattle.mp4_codec.specs.FieldLaws.{number_again, until_zero-zero, length-number, length-zeros}
use Rattle.mp4_codec.specs.FieldLaws.{length-then}
use Rattle.mp4_codec.specs.WriteLaws.{is_written, write_cause-none}
use Rattle.mp4_codec.specs.WrittenChildren.{last_child-again}
use Rattle.mp4_leaf.specs.declared.dinf.UrlBox.{UrlBox}
use Rattle.mp4_leaf.specs.declared.dinf.DrefBox.{DrefBox}
use Rattle.mp4_leaf.specs.declared.dinf.DinfBox.{DinfBox}
use Rattle.mp4_leaf.specs.Dinf.{ended, url_of, url_payload, IsInRangeUrl, IsWellFormedUrl, IsCanonicalUrl, dref_of}
use Rattle.mp4_leaf.specs.Dinf.{count_of, dref_payload, IsCanonicalDref, dinf_of, dinf_payload, IsCanonicalDinf}

abbrev length_of_ended : List ℕ → ℕ
length_of_ended [] = 0
length_of_ended (b ∷ bs) = 1 + length (b ∷ bs)

length-ended : (text : List ℕ) → length (ended text) ≡ length_of_ended text
length-ended [] = refl
length-ended (b ∷ bs) = simp (length-then, length-zeros) (omega arith)

pub length-url_payload : (b : UrlBox) → length (url_payload b) ≡ 4 + length_of_ended b.location
unfolding url_payload
length-url_payload b = simp (length-then, length-number, length-ended) (omega arith)

until_zero-ended : (text : List ℕ) → HasNoZero text → until_zero (ended text) ≡ text
unfolding until_zero
until_zero-ended [] h = refl
until_zero-ended (b ∷ bs) h = until_zero-zero (b ∷ bs) h

pub url_again : (b : UrlBox) → IsCanonicalUrl b → url_of (url_payload b) ≡ Ok b
unfolding url_of url_payload
url_again b f =
    rw (
      number_again 1 b.version _ f.in_range.version,
      number_again 3 b.flags _ f.well_formed.flags,
      until_zero-ended b.location f.well_formed.location,
    ) refl

pub length-dref_payload : (b : DrefBox) → length (dref_payload b) ≡ 8 + length (optional url url_payload b.url)
unfolding dref_payload
length-dref_payload b = simp (length-then, length-number) (omega arith)

url_encodable : IsEncodable url
unfolding box_type
url_encodable = record { named = refl; code = omega arith }

dref_encodable : IsEncodable dref
unfolding box_type
dref_encodable = record { named = refl; code = omega arith }

-- a reference within its references is canonical where they are
each_url : (o : Option UrlBox) → IfSome o IsInRangeUrl → IfSome o IsWellFormedUrl
    → length (optional url url_payload o) < 2 ^ 32
    → AllByRecursion (λ b. url_of (url_payload b) ≡ Ok b) (option_to_list o)
each_url None in_range well_formed small = tt
each_url (Some b) in_range well_formed small =
    let fits : 8 + length (url_payload b) < 2 ^ 32 = omega (arith, small, length-box_bytes url (url_payload b)) in (
      url_again b (record {
        in_range = in_range;
        well_formed = well_formed;
        written =
            write_cause-none (url_payload b) None fits refl;
      }),
      tt,
    )

few : (o : Option UrlBox) → count_of o < 256 ^ 4
few None = omega arith
few (Some b) = omega arith

pub dref_again : (b : DrefBox) → IsCanonicalDref b → dref_of (dref_payload b) ≡ Ok b
unfolding dref_of dref_payload
dref_again b f =
    let size = (is_written (dref_payload b) None f.written).small in
    let small : length (optional url url_payload b.url) < 2 ^ 32 = omega (arith, size, length-dref_payload b) in
    rw (
      number_again 1 b.version _ f.in_range.version,
      number_again 3 b.flags _ f.well_formed.flags,
      number_again 4 (count_of b.url) _ (few b.url),
      last_child-again url url_payload url_of b.url url_encodable small
          (each_url b.url f.in_range.url f.well_formed.url small),
    ) refl

pub length-dinf_payload : (b : DinfBox) → length (dinf_payload b) ≡ 8 + length (dref_payload b.dref)
unfolding dinf_payload
length-dinf_payload b = length-box_bytes dref (dref_payload b.dref)

pub dinf_again : (b : DinfBox) → IsCanonicalDinf b → dinf_of (dinf_payload b) ≡ Ok b
unfolding dinf_of dinf_payload
dinf_again b f =
    let size = (is_written (dinf_payload b) None f.written).small in
    let small : 8 + length (dref_payload b.dref) < 2 ^ 32 = omega (arith, size, length-dinf_payload b) in
    let again = dref_again b.dref (record {
      in_range = f.in_range.dref;
      well_formed = f.well_formed;
      written = write_cause-none (dref_payload b.dref) None small refl;
    }) in
    let whole : length (optional dref dref_payload (Some b.dref)) < 2 ^ 32 =
    omega (arith, small, length-box_bytes dref (dref_payload b.dref)) in
    rw (last_child-again dref dref_payload dref_of (Some b.dref) dref_encodable whole (again, tt)) refl
