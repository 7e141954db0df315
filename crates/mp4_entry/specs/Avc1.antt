-- The sample entry of AVC video (ISO/IEC 14496-15, 5.4.2).
use Rattle.std.specs.Prelude.{ℕ, ◌+◌, ◌^◌, ◌<◌, List, length, Option, Result}
use Rattle.std.specs.List.{AllByRecursion}
use Rattle.mp4_codec.specs.declared.box_type.BoxType.TheVariants.{AvcCBox as avcc}
use Rattle.mp4_codec.specs.Cause.{Cause, seen}
use Rattle.mp4_codec.specs.Boxes.{IsCanonical}
use Rattle.mp4_codec.specs.Early.{Early, refused_at_once}
use Rattle.mp4_entry.specs.declared.visual.Visual.{Visual}
use Rattle.mp4_entry.specs.declared.avcc.AvcCBox.{AvcCBox}
use Rattle.mp4_entry.specs.declared.avc1.AvcConfig.{AvcConfig}
use Rattle.mp4_entry.specs.declared.avc1.Avc1Box.{Avc1Box}
use Rattle.mp4_entry.specs.Visual.{visual_entry, visual_entry_early, visual_entry_payload, visual_of_size}
use Rattle.mp4_entry.specs.Visual.{IsInRangeVisual}
use Rattle.mp4_entry.specs.Avcc.{avcc_of, avcc_payload, avcc_refusal, default_avcc, avcc_of_sets, IsInRangeAvcC}

-- an entry that begins so, and holds this
abbrev pub avc1_with : Visual → AvcCBox → Avc1Box
avc1_with v avcc_box = record {
  data_reference_index = v.data_reference_index;
  width = v.width;
  height = v.height;
  horizresolution = v.horizresolution;
  vertresolution = v.vertresolution;
  frame_count = v.frame_count;
  depth = v.depth;
  avcc = avcc_box;
}

-- the entry that a payload holds: its configuration is the last "avcC" of its children
unfoldable pub avc1_of : List ℕ → Result Avc1Box Cause
avc1_of payload = seen (λ e. avc1_with e.0 e.1) (visual_entry avcc avcc_of payload)

-- what a payload shows of it before memory is requested
unfoldable pub avc1_early : List ℕ → Early
avc1_early payload = visual_entry_early avcc (λ child. refused_at_once (avcc_of child)) avcc_of payload

-- what the entry begins with
abbrev pub visual_of : Avc1Box → Visual
visual_of b = record {
  data_reference_index = b.data_reference_index;
  width = b.width;
  height = b.height;
  horizresolution = b.horizresolution;
  vertresolution = b.vertresolution;
  frame_count = b.frame_count;
  depth = b.depth;
}

-- the payload that holds an entry
unfoldable pub avc1_payload : Avc1Box → List ℕ
avc1_payload b = visual_entry_payload (visual_of b) avcc (avcc_payload b.avcc)

-- why an entry is not written: what it holds is not
unfoldable pub avc1_refusal : Avc1Box → Option Cause
avc1_refusal b = avcc_refusal b.avcc

-- each number is within its type
pub record IsInRangeAvc1 (b : Avc1Box) : Type 0 where
  pub visual : IsInRangeVisual (visual_of b)
  pub avcc : IsInRangeAvcC b.avcc

-- nothing beside what is written
abbrev pub IsWellFormedAvc1 : Avc1Box → Type 0
IsWellFormedAvc1 b = Unit {0}

-- an entry that is written and reads back equal
abbrev pub IsCanonicalAvc1 : Avc1Box → Type 0
IsCanonicalAvc1 = IsCanonical IsInRangeAvc1 IsWellFormedAvc1 avc1_payload avc1_refusal

-- pictures of no size
abbrev pub default_avc1 : Avc1Box
default_avc1 = avc1_with (visual_of_size 0 0) default_avcc

-- the entry of a configuration: pictures of its size, with its parameter sets
abbrev pub avc1_of_config : AvcConfig → Avc1Box
avc1_of_config c = avc1_with (visual_of_size c.width c.height) (avcc_of_sets c.seq_param_set c.pic_param_set)

-- the bytes of that entry, its header included
abbrev pub avc1_config_length : AvcConfig → ℕ
avc1_config_length c = 105 + length c.seq_param_set + length c.pic_param_set

-- each number is within its type
pub record IsInRangeAvcConfig (c : AvcConfig) : Type 0 where
  pub width : c.width < 2 ^ 16
  pub height : c.height < 2 ^ 16
  pub seq_param_set : AllByRecursion (λ b. b < 2 ^ 8) c.seq_param_set
  pub pic_param_set : AllByRecursion (λ b. b < 2 ^ 8) c.pic_param_set
