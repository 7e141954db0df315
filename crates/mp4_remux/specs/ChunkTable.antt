-- The table of a track's chunk offsets where it is made (ISO/IEC 14496-12, 8.7.5).
use Rattle.std.specs.Prelude.{◌+◌, ◌-◌, ◌^◌, ℕ, if◌then◌else◌, List, map, min}
use Rattle.mp4_codec.specs.Boxes.{box_bytes}
use Rattle.mp4_codec.specs.declared.box_type.BoxType.TheVariants.{StcoBox, Co64Box}
use Rattle.mp4_mux.specs.SampleTables.{are_far}
use Rattle.mp4_table.specs.Co64.{co64_payload}
use Rattle.mp4_table.specs.Stco.{stco_payload}

-- where chunks begin in a file whose data begins at this place, that are counted from the first byte of the data
abbrev pub chunk_places : ℕ → List ℕ → List ℕ
chunk_places base chunks = map (λ chunk. min (2 ^ 64 - 1) (base + chunk)) chunks

-- a table of these chunk offsets: `stco`, or `co64` where one passes 32 bits
unfoldable pub offsets_box : List ℕ → List ℕ
offsets_box offsets =
    if are_far offsets then box_bytes Co64Box (co64_payload (record { version = 0; flags = 0; entries = offsets }))
    else box_bytes StcoBox (stco_payload (record { version = 0; flags = 0; entries = offsets }))
