-- What is replied of a movie that is written.
use Rattle.std.specs.Prelude.{◌⊎◌, ℕ, List}
use Rattle.mp4_codec.specs.declared.error.Error.{Error}
use Rattle.mp4_codec.specs.declared.error.Error.TheVariants.{OutOfMemory}
use Rattle.mp4_codec.specs.Cause.{Cause}
use Rattle.mp4_media.specs.declared.write_error.WriteError.{WriteError}
use Rattle.mp4_media.specs.declared.write_error.WriteError.TheVariants.{Mp4, Io, Failed}
use Rattle.mp4_c.specs.declared.answer.Answer.{Answer}
use Rattle.mp4_c.specs.declared.written.Part.{Part}
use Rattle.mp4_c.specs.declared.written.Part.TheVariants.{Movie, Track, Sample, End}
use Rattle.mp4_c.specs.Answers.{refused}
use Rattle.mp4_c.specs.Refusals.{OrNoMemory}
use Rattle.mp4_c.specs.Replies.{Gave}
use Rattle.mp4_c.specs.Rooms.{copied, with_front}

-- the number of a part of a writing
abbrev pub part_number : Part → ℕ
part_number Movie = 1
part_number Track = 2
part_number Sample = 3
part_number End = 4

-- what a writer is refused for whose sink is memory, or counts: any refusal of the sink is one of memory
abbrev pub refusal_in : WriteError → Error
refusal_in (Mp4 e) = e
refusal_in (Io e) = OutOfMemory
refusal_in Failed = OutOfMemory

-- the answer of a writing that was refused at a part, and at which track or sample
abbrev pub refused_at : Cause → Part → ℕ → Answer
refused_at c part index = record (refused c) { part = part_number part; index = index }

-- a call has copied such bytes to the front of the room, where they fit
abbrev pub GaveBytes : (List ℕ → Type 0) → List ℕ → List ℕ → Answer → Type 0
GaveBytes Fits old new answer =
    (bytes : List ℕ) × (Fits bytes)
    × (Gave (record { answer = copied bytes old; room = with_front bytes old }) new answer)

-- A call was refused at a part of a writing, and has left the room as it was. The cause is out of memory, or one for
-- which this holds of the part, the index and the cause.
abbrev pub IsRefusedAt : (Part → ℕ → Cause → Type 0) → List ℕ → List ℕ → Answer → Type 0
IsRefusedAt IsRefused old new answer =
    (c : Cause) × (part : Part) × (index : ℕ) × (OrNoMemory (IsRefused part index) c)
    × (Gave (record { answer = refused_at c part index; room = old }) new answer)

-- a call has written such a movie, or it was refused so
abbrev pub GaveMovie : (List ℕ → Type 0) → (Part → ℕ → Cause → Type 0) → List ℕ → List ℕ → Answer → Type 0
GaveMovie IsMovie IsRefused old new answer =
    (GaveBytes IsMovie old new answer) ⊎ (IsRefusedAt IsRefused old new answer)
