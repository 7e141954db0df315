-- The samples of a track, a row each.
use Rattle.std.specs.Prelude.{ℕ, zero, suc, List, [], ◌∷◌, Option, Some, None, Result, Ok, Err, replicate}
use Rattle.std.specs.Prelude.{◌-◌, ◌^◌, length, if◌then◌else◌}
use Rattle.mp4_codec.specs.declared.error.Error.{Error}
use Rattle.mp4_codec.specs.Cause.{Cause, cause_of}
use Rattle.mp4_samples.specs.declared.sample.Place.{Place}
use Rattle.mp4_lookup.specs.declared.track.Mp4Track.{Mp4Track}
use Rattle.mp4_lookup.specs.InOrder.{answers_from}
use Rattle.mp4_lookup.specs.Rates.{sample_count_of}
use Rattle.mp4_lookup.specs.TrackRuns.{track_runs}
use Rattle.mp4_c.specs.declared.answer.Answer.{Answer}
use Rattle.mp4_c.specs.declared.samples.SampleRow.{SampleRow}
use Rattle.mp4_c.specs.Answers.{done, refused}
use Rattle.mp4_c.specs.Replies.{Gave, Reply, refusal}
use Rattle.mp4_c.specs.Rooms.{over}

-- the row of a sample of the track with this id, which lies there
abbrev pub row_of : ℕ → Place → SampleRow
row_of id p = record {
  offset = p.offset;
  start_time = p.start_time;
  track_id = id;
  size = p.size;
  duration = p.duration;
  rendering_offset = p.rendering_offset;
  is_sync = if p.is_sync then 1 else 0;
  reserved = replicate 7 0;
}

-- the rows of a walk, of at most so many samples: up to the first that is refused
unfoldable pub rows_of : ℕ → ℕ → List (Result Place Cause) → List SampleRow
rows_of id zero answers = []
rows_of id (suc room) [] = []
rows_of id (suc room) (Ok p ∷ answers) = row_of id p ∷ rows_of id room answers
rows_of id (suc room) (Err c ∷ answers) = []

-- why one of them is refused, if it is
unfoldable pub refusal_in : ℕ → List (Result Place Cause) → Option Cause
refusal_in zero answers = None
refusal_in (suc room) [] = None
refusal_in (suc room) (Ok p ∷ answers) = refusal_in room answers
refusal_in (suc room) (Err c ∷ answers) = Some c

-- why a walk ended, if it was refused
abbrev pub end_of : Result (Unit {0}) Error → Option Cause
end_of (Ok x) = None
end_of (Err e) = Some (cause_of e)

-- what is answered of so many samples, of which so many were filled in: the refusal of the next, if it is refused
abbrev pub walk_answer : ℕ → ℕ → Option Cause → Answer
walk_answer count filled None = done count filled
walk_answer count filled (Some c) = record (refused c) { count = count; filled = filled }

-- what a walk over a track's samples replies, where these are counted
abbrev pub walk_reply : Result ℕ Cause → ℕ → List (Result Place Cause) → List SampleRow → Reply (List SampleRow)
walk_reply (Err c) id answers room = refusal c room
walk_reply (Ok count) id answers room =
    let rows = rows_of id (length room) answers in
    record { answer = walk_answer count (length rows) (refusal_in (length room) answers); room = over rows room }

-- what is replied of the samples of a track from number first on
abbrev pub samples_reply : ℕ → ℕ → Mp4Track → List SampleRow → Reply (List SampleRow)
samples_reply id first t room =
    walk_reply (sample_count_of t.trak (track_runs t)) id (answers_from (2 ^ 32 - first) t first) room

-- a call has filled in the samples of a track from number first on
abbrev pub GaveSamples : ℕ → ℕ → Mp4Track → List SampleRow → List SampleRow → Answer → Type 0
GaveSamples id first t old new answer = Gave (samples_reply id first t old) new answer
