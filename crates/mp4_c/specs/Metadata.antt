-- What is replied of the metadata of a movie.
use Rattle.std.specs.Prelude.{◌⊎◌, ℕ, List, Option, Some, None, nat_lt, ◌==◌, if◌then◌else◌}
use Rattle.std.specs.Fmt.{decimal}
use Rattle.std.specs.Option.{option_map}
use Rattle.mp4_codec.specs.Cause.{out_of_memory}
use Rattle.mp4_meta.specs.declared.ilst.IlstBox.{IlstBox}
use Rattle.mp4_meta.specs.Metadata.{poster_of, summary_of, title_of, year_of}
use Rattle.mp4_media.specs.declared.reader.Mp4Reader.{Mp4Reader}
use Rattle.mp4_media.specs.Reading.{ilst_of_movie}
use Rattle.mp4_c.specs.declared.answer.Answer.{Answer}
use Rattle.mp4_c.specs.Answers.{plain}
use Rattle.mp4_c.specs.Replies.{Gave, Reply, refusal}
use Rattle.mp4_c.specs.Rooms.{copied, with_front}

-- what is replied of bytes that are copied where they fit, if there are any: 17 says that there are none
abbrev pub found_reply : Option (List ℕ) → List ℕ → Reply (List ℕ)
found_reply None room = record { answer = plain 17; room = room }
found_reply (Some bytes) room = record { answer = copied bytes room; room = with_front bytes room }

-- the bytes that the items of a movie say at a key: the title, the digits of the year, the poster or the summary
abbrev pub item_bytes : ℕ → IlstBox → Option (List ℕ)
item_bytes key items =
    if key == 1 then title_of items.items else
    if key == 2 then option_map decimal (year_of items.items) else
    if key == 3 then poster_of items.items else
    summary_of items.items

-- the same, if the movie has items
abbrev pub metadata_bytes : ℕ → Option IlstBox → Option (List ℕ)
metadata_bytes key None = None
metadata_bytes key (Some items) = item_bytes key items

-- what is replied at a key: 18 says that it isn't one of the four
abbrev pub metadata_reply : ℕ → Option IlstBox → List ℕ → Reply (List ℕ)
metadata_reply key items room =
    if key == 0 then record { answer = plain 18; room = room } else
    if nat_lt 4 key then record { answer = plain 18; room = room } else
    found_reply (metadata_bytes key items) room

-- a call has replied this, or it was out of memory and has left the room as it was
abbrev pub GaveOrOutOfMemory : Reply (List ℕ) → List ℕ → List ℕ → Answer → Type 0
GaveOrOutOfMemory reply old new answer = (Gave reply new answer) ⊎ (Gave (refusal out_of_memory old) new answer)

-- a call has given what an opened file says of its movie at a key
abbrev pub GaveMetadata : ℕ → Mp4Reader → List ℕ → List ℕ → Answer → Type 0
GaveMetadata key m old new answer =
    GaveOrOutOfMemory (metadata_reply key (ilst_of_movie m.movie.moov) old) old new answer
