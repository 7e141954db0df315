-- The sample entry of VP9 video (the VP codec binding to ISO media files).
use Rattle.std.specs.Prelude.{ℕ, ◌^◌, ◌<◌, List, Result}
use Rattle.mp4_codec.specs.declared.box_type.BoxType.TheVariants.{VpccBox as vpcc}
use Rattle.mp4_codec.specs.Cause.{Cause, seen}
use Rattle.mp4_codec.specs.Boxes.{IsCanonical, no_refusal}
use Rattle.mp4_codec.specs.Early.{Early, refused_at_once}
use Rattle.mp4_entry.specs.declared.visual.Visual.{Visual}
use Rattle.mp4_entry.specs.declared.vpcc.VpccBox.{VpccBox}
use Rattle.mp4_entry.specs.declared.vp09.Vp9Config.{Vp9Config}
use Rattle.mp4_entry.specs.declared.vp09.Vp09Box.{Vp09Box}
use Rattle.mp4_entry.specs.Visual.{visual_entry, visual_entry_early, visual_entry_payload, visual_of_size}
use Rattle.mp4_entry.specs.Visual.{IsInRangeVisual}
use Rattle.mp4_entry.specs.Vpcc.{vpcc_of, vpcc_payload, default_vpcc}

-- an entry that begins so, and holds this
abbrev pub vp09_with : Visual → VpccBox → Vp09Box
vp09_with v vpcc_box = record {
  data_reference_index = v.data_reference_index;
  width = v.width;
  height = v.height;
  horizresolution = v.horizresolution;
  vertresolution = v.vertresolution;
  frame_count = v.frame_count;
  depth = v.depth;
  vpcc = vpcc_box;
}

-- the entry that a payload holds: its configuration is the last "vpcC" of its children
unfoldable pub vp09_of : List ℕ → Result Vp09Box Cause
vp09_of payload = seen (λ e. vp09_with e.0 e.1) (visual_entry vpcc vpcc_of payload)

-- what a payload shows of it before memory is requested
unfoldable pub vp09_early : List ℕ → Early
vp09_early payload = visual_entry_early vpcc (λ child. refused_at_once (vpcc_of child)) vpcc_of payload

-- what the entry begins with
abbrev pub visual_of : Vp09Box → Visual
visual_of b = record {
  data_reference_index = b.data_reference_index;
  width = b.width;
  height = b.height;
  horizresolution = b.horizresolution;
  vertresolution = b.vertresolution;
  frame_count = b.frame_count;
  depth = b.depth;
}

-- the payload that holds an entry
unfoldable pub vp09_payload : Vp09Box → List ℕ
vp09_payload b = visual_entry_payload (visual_of b) vpcc (vpcc_payload b.vpcc)

-- each number is within its type
pub record IsInRangeVp09 (b : Vp09Box) : Type 0 where
  pub visual : IsInRangeVisual (visual_of b)

-- nothing beside what is written
abbrev pub IsWellFormedVp09 : Vp09Box → Type 0
IsWellFormedVp09 b = Unit {0}

-- an entry that is written and reads back equal
abbrev pub IsCanonicalVp09 : Vp09Box → Type 0
IsCanonicalVp09 = IsCanonical IsInRangeVp09 IsWellFormedVp09 vp09_payload no_refusal

-- pictures of no size
abbrev pub default_vp09 : Vp09Box
default_vp09 = vp09_with (visual_of_size 0 0) default_vpcc

-- the entry of a configuration: pictures of its size
abbrev pub vp09_of_config : Vp9Config → Vp09Box
vp09_of_config c = vp09_with (visual_of_size c.width c.height) default_vpcc

-- the bytes of that entry, its header included
abbrev pub vp09_config_length : Vp9Config → ℕ
vp09_config_length c = 106

-- each number is within its type
pub record IsInRangeVp9Config (c : Vp9Config) : Type 0 where
  pub width : c.width < 2 ^ 16
  pub height : c.height < 2 ^ 16
