-- The sample entry of AVC video is read as it was written.
use Rattle.std.proofs.Common.{◌≡◌, ◌+◌, length, Ok, refl, lit<, arith}
use Rattle.mp4_codec.specs.declared.box_type.BoxType.TheVariants.{AvcCBox as avcc}
use Rattle.mp4_codec.specs.BoxType.{box_type}
use Rattle.mp4_entry.specs.declared.avc1.Avc1Box.{Avc1Box}
use Rattle.mp4_entry.specs.declared.avc1.AvcConfig.{AvcConfig}
use Rattle.mp4_entry.specs.VisualLaws.{length-visual_entry_payload, visual_entry_again}
use Rattle.mp4_entry.specs.Avcc.{avcc_of, avcc_payload, IsInRangeAvcC, IsWellFormedAvcC, avcc_refusal}
use Rattle.mp4_entry.specs.AvccLaws.{avcc_again, length-avcc_of_sets}
use Rattle.mp4_entry.specs.Avc1.{visual_of, avc1_of, avc1_payload, avc1_refusal, IsCanonicalAvc1}
use Rattle.mp4_entry.specs.Avc1.{avc1_of_config, avc1_config_length}

pub length-avc1_payload : (b : Avc1Box) → length (avc1_payload b) ≡ 86 + length (avcc_payload b.avcc)
unfolding avc1_payload
length-avc1_payload b = length-visual_entry_payload (visual_of b) avcc (avcc_payload b.avcc)

pub avc1_again : (b : Avc1Box) → IsCanonicalAvc1 b → avc1_of (avc1_payload b) ≡ Ok b
unfolding avc1_of avc1_payload avc1_refusal box_type
avc1_again b f =
    rw (visual_entry_again avcc avcc_of IsInRangeAvcC IsWellFormedAvcC avcc_payload avcc_refusal
    (record { named = refl; code = lit< tt }) avcc_again (visual_of b) b.avcc f.in_range.visual
    f.in_range.avcc tt f.written) refl

-- the bytes of the entry of a configuration, its header included
pub avc1_of_config_size : (c : AvcConfig)
    → 8 + length (avc1_payload (avc1_of_config c)) ≡ avc1_config_length c
avc1_of_config_size c =
    omega (arith, length-avc1_payload (avc1_of_config c), length-avcc_of_sets c.seq_param_set c.pic_param_set)
