-- The sample entry of HEVC video is read as it was written.
use Rattle.std.proofs.Common.{◌≡◌, ◌+◌, length, Ok, refl, lit<}
use Rattle.mp4_codec.specs.declared.box_type.BoxType.TheVariants.{HvcCBox as hvcc}
use Rattle.mp4_codec.specs.BoxType.{box_type}
use Rattle.mp4_codec.specs.Boxes.{no_refusal}
use Rattle.mp4_codec.specs.FieldLaws.{length-then, length-number, length-zeros}
use Rattle.mp4_entry.specs.declared.hev1.Hev1Box.{Hev1Box}
use Rattle.mp4_entry.specs.declared.hev1.HevcConfig.{HevcConfig}
use Rattle.mp4_entry.specs.VisualLaws.{length-visual_entry_payload, visual_entry_again}
use Rattle.mp4_entry.specs.Hvcc.{hvcc_of, hvcc_payload, IsInRangeHvcC, IsWellFormedHvcC}
use Rattle.mp4_entry.specs.HvccLaws.{hvcc_again, length-hvcc_payload}
use Rattle.mp4_entry.specs.Hev1.{visual_of, hev1_of, hev1_payload, IsCanonicalHev1, hev1_of_config, hev1_config_length}

pub length-hev1_payload : (b : Hev1Box) → length (hev1_payload b) ≡ 86 + length (hvcc_payload b.hvcc)
unfolding hev1_payload
length-hev1_payload b = length-visual_entry_payload (visual_of b) hvcc (hvcc_payload b.hvcc)

pub hev1_again : (b : Hev1Box) → IsCanonicalHev1 b → hev1_of (hev1_payload b) ≡ Ok b
unfolding hev1_of hev1_payload box_type
hev1_again b f =
    rw (visual_entry_again hvcc hvcc_of IsInRangeHvcC IsWellFormedHvcC hvcc_payload no_refusal
    (record { named = refl; code = lit< tt }) hvcc_again (visual_of b) b.hvcc f.in_range.visual tt tt f.written) refl

-- the bytes of the entry of a configuration, its header included
pub hev1_of_config_size : (c : HevcConfig) → 8 + length (hev1_payload (hev1_of_config c)) ≡ hev1_config_length c
hev1_of_config_size c = simp (length-hev1_payload, length-hvcc_payload, length-then, length-number, length-zeros) refl
