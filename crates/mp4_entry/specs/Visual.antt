-- Visual sample entries: what they begin with, and the configuration of their decoder (ISO/IEC 14496-12, 12.1.3).
use Rattle.std.specs.Prelude.{ℕ, ◌^◌, ◌<◌, List, Option, Some, None, Result, Ok, Err}
use Rattle.mp4_codec.specs.declared.box_type.BoxType.{BoxType}
use Rattle.mp4_codec.specs.Cause.{Cause, invalid_data, ◌>>=◌}
use Rattle.mp4_codec.specs.Bytes.{Reader, number_at, bytes_at, number, zeros, ◌⧺◌}
use Rattle.mp4_codec.specs.Boxes.{box_bytes}
use Rattle.mp4_codec.specs.Children.{children, gathered, fault_in, last_of}
use Rattle.mp4_codec.specs.Early.{Early, early_gathered, early_last, at_once, ◌and_then◌, ◌before◌}
use Rattle.mp4_entry.specs.declared.visual.Visual.{Visual}

-- the next beginning of an entry: the number of the data reference, the size of a picture, its pixels an inch both
-- ways, how many pictures a sample has, the bits of a pixel; the reserved bytes and the compressor's name are not
-- looked at
unfoldable pub visual_at : Reader Visual
visual_at bytes = do
  reserved ← bytes_at 6 bytes
  data_reference_index ← number_at 2 reserved.1
  predefined ← bytes_at 16 data_reference_index.1
  width ← number_at 2 predefined.1
  height ← number_at 2 width.1
  horizresolution ← number_at 4 height.1
  vertresolution ← number_at 4 horizresolution.1
  reserved_2 ← bytes_at 4 vertresolution.1
  frame_count ← number_at 2 reserved_2.1
  compressor ← bytes_at 32 frame_count.1
  depth ← number_at 2 compressor.1
  predefined_2 ← bytes_at 2 depth.1
  Ok (
    record {
      data_reference_index = data_reference_index.0;
      width = width.0;
      height = height.0;
      horizresolution = record { raw = horizresolution.0 };
      vertresolution = record { raw = vertresolution.0 };
      frame_count = frame_count.0;
      depth = depth.0;
    },
    predefined_2.1,
  )

unfoldable pub visual : Visual → List ℕ
visual v =
    zeros 6
    ⧺ number 2 v.data_reference_index
    ⧺ zeros 16
    ⧺ number 2 v.width
    ⧺ number 2 v.height
    ⧺ number 4 v.horizresolution.raw
    ⧺ number 4 v.vertresolution.raw
    ⧺ zeros 4
    ⧺ number 2 v.frame_count
    ⧺ zeros 32
    ⧺ number 2 v.depth
    ⧺ number 2 0xffff

-- the child that an entry has to have
abbrev pub required : {A : Type 0} → Option A → Result A Cause
required None = Err invalid_data
required (Some x) = Ok x

-- the visual entry that a payload holds, by the type of its configuration and by what that one's payload means: what
-- it begins with, and the last configuration of its children
unfoldable pub visual_entry : {C : Type 0} → BoxType → (List ℕ → Result C Cause) → List ℕ → Result (Visual × C) Cause
visual_entry kind value payload = do
  begins ← visual_at payload
  last_config ← gathered (fault_in kind value) (last_of kind value) (children begins.1)
  config ← required last_config
  Ok (begins.0, config)

-- what a payload shows of it before memory is requested: what it begins with, then its children
unfoldable pub visual_entry_early : {C : Type 0} → BoxType → (List ℕ → Early) → (List ℕ → Result C Cause) → List ℕ
    → Early
visual_entry_early kind early value payload =
    visual_at payload before λ begins.
    early_gathered (early_last kind early) (children begins.1) and_then at_once (visual_entry kind value payload)

-- the payload that holds a visual entry, by the type and the payload of its configuration
unfoldable pub visual_entry_payload : Visual → BoxType → List ℕ → List ℕ
visual_entry_payload v kind config = visual v ⧺ box_bytes kind config

-- each number is within its type
pub record IsInRangeVisual (v : Visual) : Type 0 where
  pub data_reference_index : v.data_reference_index < 2 ^ 16
  pub width : v.width < 2 ^ 16
  pub height : v.height < 2 ^ 16
  pub horizresolution : v.horizresolution.raw < 2 ^ 32
  pub vertresolution : v.vertresolution.raw < 2 ^ 32
  pub frame_count : v.frame_count < 2 ^ 16
  pub depth : v.depth < 2 ^ 16

-- one picture of this size in each sample: the first data reference, 72 pixels an inch, 24 bits a pixel
abbrev pub visual_of_size : ℕ → ℕ → Visual
visual_of_size width height = record {
  data_reference_index = 1;
  width = width;
  height = height;
  horizresolution = record { raw = 0x00480000 };
  vertresolution = record { raw = 0x00480000 };
  frame_count = 1;
  depth = 24;
}
