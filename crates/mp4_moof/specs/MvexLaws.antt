-- What a movie says of its fragments is read as it was written.
use Rattle.std.proofs.Common.{◌≡◌, ◌^◌, List, [], ◌∷◌, ◌++◌, Ok, refl, arith}
use Rattle.std.specs.Option.{option_to_list}
use Rattle.std.proofs.Common.{lit<}
use Rattle.mp4_codec.specs.declared.box_type.BoxType.TheVariants.{MehdBox as mehd, TrexBox as trex, MvexBox as mvex}
use Rattle.mp4_codec.specs.BoxType.{box_type}
use Rattle.mp4_codec.specs.Framing.{IsEncodable}
use Rattle.mp4_codec.specs.Cause.{unless}
use Rattle.mp4_codec.specs.Boxes.{optional, all_box_bytes}
use Rattle.mp4_codec.specs.Children.{ChildBox, fault_in}
use Rattle.mp4_codec.specs.GatherLaws.{unless-then, with_last-last_of, all_children-adds}
use Rattle.mp4_codec.specs.WriteLaws.{is_written}
use Rattle.mp4_codec.specs.WrittenParts.{none_refuse, some_needed-again, Groups, Part, Written, payloads}
use Rattle.mp4_codec.specs.WrittenParts.{optional_part, list_part, group, last_group, gathered-written}
use Rattle.mp4_codec.specs.WrittenParts.{last_of-part, all_of-part, both_fit, Kind}
use Rattle.mp4_moof.specs.Mehd.{mehd_of, mehd_payload}
use Rattle.mp4_moof.specs.Trex.{trex_of, trex_payload}
use Rattle.mp4_moof.specs.declared.mvex.MvexBox.{MvexBox}
use Rattle.mp4_moof.specs.FragmentKinds.{mehd_kind, trex_kind}
use Rattle.mp4_moof.specs.Mvex.{mvex_fault, mvex_taken, mvex_added, mvex_of, mvex_payload, mvex_refusal}
use Rattle.mp4_moof.specs.Mvex.{IsInRangeMvex, IsWellFormedMvex, IsCanonicalMvex}

pub mvex_adds : (cs : List ChildBox) (c : ChildBox)
    → mvex_added (mvex_taken cs) c ≡ unless (mvex_fault c) (Ok (mvex_taken (cs ++ c ∷ [])))
unfolding mvex_fault mvex_taken mvex_added
mvex_adds cs c =
    rw (with_last-last_of mehd mehd_of cs c)
    (unless-then (fault_in mehd mehd_of c) _ _ _ _
    (all_children-adds trex trex_of _ cs c))

abbrev groups : MvexBox → Groups
groups b = (mehd, payloads mehd_payload (option_to_list b.mehd))
    ∷ (trex, payloads trex_payload b.trexs) ∷ []

record Parts (b : MvexBox) : Type 0 where
  mehd : Part mehd_kind (optional mehd mehd_payload b.mehd) (option_to_list b.mehd)
  trexs : Part trex_kind (all_box_bytes trex trex_payload b.trexs) b.trexs

parts : (b : MvexBox) → IsCanonicalMvex b → Parts b
unfolding mvex_payload mvex_refusal
parts b f =
    let written = is_written (mvex_payload b) (mvex_refusal b) f.written in
    let after_mehd = all_box_bytes trex trex_payload b.trexs in
    let mehd_fits = both_fit (optional mehd mehd_payload b.mehd) after_mehd (2 ^ 32) (omega (arith, written.small)) in
    record {
      mehd = optional_part mehd_kind b.mehd f.in_range.mehd f.well_formed.mehd written.sound mehd_fits.0;
      trexs = list_part trex_kind b.trexs f.in_range.trexs f.well_formed.trexs (none_refuse b.trexs) mehd_fits.1;
    }

pub mvex_again : (b : MvexBox) → IsCanonicalMvex b → mvex_of (mvex_payload b) ≡ Ok b
unfolding mvex_of mvex_payload mvex_fault mvex_taken
mvex_again b f =
    let p = parts b f in
    let written : Written mvex_fault (mvex_payload b) (groups b) =
    group mehd_kind p.mehd (λ x e. rw e refl)
    (last_group trex_kind p.trexs (λ x e. rw e refl)) in
    rw (
      gathered-written mvex_taken written,
      last_of-part mehd_kind b.mehd (groups b) p.mehd refl,
      all_of-part trex_kind b.trexs (groups b) p.trexs refl,
      some_needed-again trex b.trexs f.well_formed.some,
    ) refl

pub encodable_mvex : IsEncodable mvex
unfolding box_type
encodable_mvex = record { named = refl; code = lit< tt }

abbrev pub mvex_kind : Kind MvexBox
mvex_kind = record {
  name = mvex;
  payload = mvex_payload;
  value = mvex_of;
  refusal = mvex_refusal;
  IsInRange = IsInRangeMvex;
  IsWellFormed = IsWellFormedMvex;
  encodable = encodable_mvex;
  again = mvex_again;
}
