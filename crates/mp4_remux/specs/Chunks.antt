-- The samples of a track in chunks (ISO/IEC 14496-12, 8.7.4).
use Rattle.std.specs.Prelude.{◌+◌, ◌-◌, ◌^◌, ◌==◌, ◌&&◌, ℕ, min, Bool, false, nat_lt, if◌then◌else◌, List, [], ◌∷◌}
use Rattle.std.specs.Prelude.{Option, Some, None}
use Rattle.mp4_table.specs.declared.stsc.StscBox.{StscBox}
use Rattle.mp4_table.specs.declared.stsc.StscEntry.{StscEntry}
use Rattle.mp4_remux.specs.declared.chunks.Chunk.{Chunk}
use Rattle.mp4_remux.specs.declared.chunks.PlacedSample.{PlacedSample}

-- where a sample ends in the data
abbrev pub end_of_sample : PlacedSample → ℕ
end_of_sample s = min (2 ^ 64 - 1) (s.place + s.info.size)

-- the chunk that begins with a sample
abbrev pub chunk_with : PlacedSample → Chunk
chunk_with s = record { place = s.place; count = 1; description = s.description }

-- a sample belongs to a chunk that ends at a place: it begins there, has the chunk's description, and the chunk has
-- less samples than 32 bits can count
abbrev pub belongs_to : Chunk → ℕ → PlacedSample → Bool
belongs_to c end s = (s.place == end) && ((s.description == c.description) && nat_lt c.count (2 ^ 32 - 1))

-- a chunk with one sample more
abbrev pub and_one : Chunk → Chunk
and_one c = record { place = c.place; count = c.count + 1; description = c.description }

-- a chunk that ends at a place and those after it, where these samples come next
unfoldable pub chunks_from : Chunk → ℕ → List PlacedSample → List Chunk
chunks_from c end [] = c ∷ []
chunks_from c end (s ∷ ss) =
    if belongs_to c end s then chunks_from (and_one c) (end_of_sample s) ss
    else c ∷ chunks_from (chunk_with s) (end_of_sample s) ss

-- the chunks of samples
unfoldable pub chunks_of : List PlacedSample → List Chunk
chunks_of [] = []
chunks_of (s ∷ ss) = chunks_from (chunk_with s) (end_of_sample s) ss

-- the chunks before a sample and all that come next, where the last of them ends at a place
unfoldable pub chunks_after : List Chunk → ℕ → List PlacedSample → List Chunk
chunks_after [] end ss = chunks_of ss
chunks_after (c ∷ []) end ss = chunks_from c end ss
chunks_after (c ∷ d ∷ cs) end ss = c ∷ chunks_after (d ∷ cs) end ss

-- a chunk has as many samples as the one before it, and their description; before the first there is none
abbrev pub is_alike : Option Chunk → Chunk → Bool
is_alike None c = false
is_alike (Some before) c = (before.count == c.count) && (before.description == c.description)

-- an entry for each chunk that isn't like the one before it; the first of these chunks has this number, or a greater
-- one where that passes 32 bits
unfoldable pub chunk_entries : Option Chunk → ℕ → List Chunk → List StscEntry
chunk_entries before number [] = []
chunk_entries before number (c ∷ cs) =
    if is_alike before c then chunk_entries (Some c) (min (2 ^ 32 - 1) (number + 1)) cs
    else record {
      first_chunk = number;
      samples_per_chunk = c.count;
      sample_description_index = c.description;
      first_sample = 0;
    } ∷ chunk_entries (Some c) (min (2 ^ 32 - 1) (number + 1)) cs

-- how many samples the chunks have, and which description
unfoldable pub stsc_of_chunks : List Chunk → StscBox
stsc_of_chunks chunks = record { version = 0; flags = 0; entries = chunk_entries None 1 chunks }
