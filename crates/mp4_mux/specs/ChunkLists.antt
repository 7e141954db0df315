-- The chunks of a track, and the tables of their offsets.
use Rattle.std.specs.Prelude.{ℕ, ◌+◌, ◌++◌, List, length, map, Option}
use Rattle.std.specs.Option.{option_to_list}
use Rattle.mp4_codec.specs.Boxes.{optional}
use Rattle.mp4_codec.specs.declared.box_type.BoxType.TheVariants.{StcoBox as stco, Co64Box as co64}
use Rattle.mp4_table.specs.Stco.{stco_payload}
use Rattle.mp4_table.specs.Co64.{co64_payload}
use Rattle.mp4_mux.specs.declared.chunk_place.ChunkPlace.{ChunkPlace}
use Rattle.mp4_mux.specs.SampleTables.{stco_for, co64_for}

-- how many samples each has
abbrev pub sample_counts : List ChunkPlace → List ℕ
sample_counts cs = map (λ c. c.count) cs

-- where each begins
abbrev pub offsets : List ChunkPlace → List ℕ
offsets cs = map (λ c. c.offset) cs

-- these chunks, and the one after them where there is one
abbrev pub and_last : List ChunkPlace → Option ChunkPlace → List ChunkPlace
and_last cs last = cs ++ option_to_list last

-- the bytes of both tables of offsets, of which one is there
abbrev pub places_length : List ℕ → ℕ
places_length os =
    length (optional stco stco_payload (stco_for os)) + length (optional co64 co64_payload (co64_for os))
