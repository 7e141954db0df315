-- The sample entry of VP9 video is read as it was written.
use Rattle.std.proofs.Common.{◌≡◌, ◌+◌, length, Ok, refl, lit<}
use Rattle.mp4_codec.specs.declared.box_type.BoxType.TheVariants.{VpccBox as vpcc}
use Rattle.mp4_codec.specs.BoxType.{box_type}
use Rattle.mp4_codec.specs.Boxes.{no_refusal}
use Rattle.mp4_codec.specs.FieldLaws.{length-then, length-number}
use Rattle.mp4_entry.specs.declared.vp09.Vp09Box.{Vp09Box}
use Rattle.mp4_entry.specs.declared.vp09.Vp9Config.{Vp9Config}
use Rattle.mp4_entry.specs.VisualLaws.{length-visual_entry_payload, visual_entry_again}
use Rattle.mp4_entry.specs.Vpcc.{vpcc_of, vpcc_payload, IsInRangeVpcc, IsWellFormedVpcc}
use Rattle.mp4_entry.specs.VpccLaws.{vpcc_again, length-vpcc_payload}
use Rattle.mp4_entry.specs.Vp09.{visual_of, vp09_of, vp09_payload, IsCanonicalVp09, vp09_of_config, vp09_config_length}

pub length-vp09_payload : (b : Vp09Box) → length (vp09_payload b) ≡ 86 + length (vpcc_payload b.vpcc)
unfolding vp09_payload
length-vp09_payload b = length-visual_entry_payload (visual_of b) vpcc (vpcc_payload b.vpcc)

pub vp09_again : (b : Vp09Box) → IsCanonicalVp09 b → vp09_of (vp09_payload b) ≡ Ok b
unfolding vp09_of vp09_payload box_type
vp09_again b f =
    rw (visual_entry_again vpcc vpcc_of IsInRangeVpcc IsWellFormedVpcc vpcc_payload no_refusal
    (record { named = refl; code = lit< tt }) vpcc_again (visual_of b) b.vpcc f.in_range.visual tt tt f.written) refl

-- the bytes of the entry of a configuration, its header included
pub vp09_of_config_size : (c : Vp9Config) → 8 + length (vp09_payload (vp09_of_config c)) ≡ vp09_config_length c
vp09_of_config_size c = simp (length-vp09_payload, length-vpcc_payload, length-then, length-number) refl
