-- User data is read as it was written.
use Rattle.std.proofs.Common.{◌≡◌, [], ◌∷◌, Option, Some, None, Ok, refl, arith, lit<}
use Rattle.std.specs.Option.{option_to_list}
use Rattle.mp4_codec.specs.declared.box_type.BoxType.TheVariants.{MetaBox as meta, UdtaBox as udta}
use Rattle.mp4_codec.specs.BoxType.{box_type}
use Rattle.mp4_codec.specs.Boxes.{optional, no_refusal}
use Rattle.mp4_codec.specs.Framing.{IsEncodable}
use Rattle.mp4_codec.specs.Children.{fault_in, last_of}
use Rattle.mp4_codec.specs.WriteLaws.{is_written}
use Rattle.mp4_codec.specs.WrittenParts.{Kind, Groups, Part, Written, payloads, optional_part, last_group}
use Rattle.mp4_codec.specs.WrittenParts.{gathered-written, last_of-part, none_refuses}
use Rattle.mp4_meta.specs.declared.meta.MetaBox.{MetaBox}
use Rattle.mp4_meta.specs.declared.udta.UdtaBox.{UdtaBox}
use Rattle.mp4_meta.specs.Meta.{meta_of, meta_payload}
use Rattle.mp4_meta.specs.MetaLaws.{meta_kind}
use Rattle.mp4_meta.specs.Udta.{udta_of, udta_payload, IsInRangeUdta, IsWellFormedUdta, IsCanonicalUdta}

abbrev groups : UdtaBox → Groups
groups b = (meta, payloads meta_payload (option_to_list b.meta)) ∷ []

pub udta_again : (b : UdtaBox) → IsCanonicalUdta b → udta_of (udta_payload b) ≡ Ok b
unfolding udta_of udta_payload
udta_again b f =
    let written = is_written (udta_payload b) None f.written in
    let part : Part meta_kind (optional meta meta_payload b.meta) (option_to_list b.meta) =
    optional_part meta_kind b.meta f.in_range.meta f.well_formed.meta (none_refuses b.meta)
    (omega (arith, written.small)) in
    let child : Written (fault_in meta meta_of) (optional meta meta_payload b.meta) (groups b) =
    last_group meta_kind part (λ x e. rw e refl) in
    rw (
      gathered-written (last_of meta meta_of) child,
      last_of-part meta_kind b.meta (groups b) part refl,
    ) refl

pub encodable_udta : IsEncodable udta
unfolding box_type
encodable_udta = record { named = refl; code = lit< tt }

abbrev pub udta_kind : Kind UdtaBox
udta_kind = record {
  name = udta;
  payload = udta_payload;
  value = udta_of;
  refusal = no_refusal;
  IsInRange = IsInRangeUdta;
  IsWellFormed = IsWellFormedUdta;
  encodable = encodable_udta;
  again = udta_again;
}
