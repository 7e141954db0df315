-- The sample entry of HEVC video (ISO/IEC 14496-15, 8.4.1).
use Rattle.std.specs.Prelude.{ℕ, ◌^◌, ◌<◌, List, Result}
use Rattle.mp4_codec.specs.declared.box_type.BoxType.TheVariants.{HvcCBox as hvcc}
use Rattle.mp4_codec.specs.Cause.{Cause, seen}
use Rattle.mp4_codec.specs.Boxes.{IsCanonical, no_refusal}
use Rattle.mp4_codec.specs.Early.{Early, refused_at_once}
use Rattle.mp4_entry.specs.declared.visual.Visual.{Visual}
use Rattle.mp4_entry.specs.declared.hvcc.HvcCBox.{HvcCBox}
use Rattle.mp4_entry.specs.declared.hev1.HevcConfig.{HevcConfig}
use Rattle.mp4_entry.specs.declared.hev1.Hev1Box.{Hev1Box}
use Rattle.mp4_entry.specs.Visual.{visual_entry, visual_entry_early, visual_entry_payload, visual_of_size}
use Rattle.mp4_entry.specs.Visual.{IsInRangeVisual}
use Rattle.mp4_entry.specs.Hvcc.{hvcc_of, hvcc_payload, default_hvcc}

-- an entry that begins so, and holds this
abbrev pub hev1_with : Visual → HvcCBox → Hev1Box
hev1_with v hvcc_box = record {
  data_reference_index = v.data_reference_index;
  width = v.width;
  height = v.height;
  horizresolution = v.horizresolution;
  vertresolution = v.vertresolution;
  frame_count = v.frame_count;
  depth = v.depth;
  hvcc = hvcc_box;
}

-- the entry that a payload holds: its configuration is the last "hvcC" of its children
unfoldable pub hev1_of : List ℕ → Result Hev1Box Cause
hev1_of payload = seen (λ e. hev1_with e.0 e.1) (visual_entry hvcc hvcc_of payload)

-- what a payload shows of it before memory is requested
unfoldable pub hev1_early : List ℕ → Early
hev1_early payload = visual_entry_early hvcc (λ child. refused_at_once (hvcc_of child)) hvcc_of payload

-- what the entry begins with
abbrev pub visual_of : Hev1Box → Visual
visual_of b = record {
  data_reference_index = b.data_reference_index;
  width = b.width;
  height = b.height;
  horizresolution = b.horizresolution;
  vertresolution = b.vertresolution;
  frame_count = b.frame_count;
  depth = b.depth;
}

-- the payload that holds an entry
unfoldable pub hev1_payload : Hev1Box → List ℕ
hev1_payload b = visual_entry_payload (visual_of b) hvcc (hvcc_payload b.hvcc)

-- each number is within its type
pub record IsInRangeHev1 (b : Hev1Box) : Type 0 where
  pub visual : IsInRangeVisual (visual_of b)

-- nothing beside what is written
abbrev pub IsWellFormedHev1 : Hev1Box → Type 0
IsWellFormedHev1 b = Unit {0}

-- an entry that is written and reads back equal
abbrev pub IsCanonicalHev1 : Hev1Box → Type 0
IsCanonicalHev1 = IsCanonical IsInRangeHev1 IsWellFormedHev1 hev1_payload no_refusal

-- pictures of no size
abbrev pub default_hev1 : Hev1Box
default_hev1 = hev1_with (visual_of_size 0 0) default_hvcc

-- the entry of a configuration: pictures of its size
abbrev pub hev1_of_config : HevcConfig → Hev1Box
hev1_of_config c = hev1_with (visual_of_size c.width c.height) default_hvcc

-- the bytes of that entry, its header included
abbrev pub hev1_config_length : HevcConfig → ℕ
hev1_config_length c = 117

-- each number is within its type
pub record IsInRangeHevcConfig (c : HevcConfig) : Type 0 where
  pub width : c.width < 2 ^ 16
  pub height : c.height < 2 ^ 16
