-- What a call answers of a file, and what it fills in.
use Rattle.std.specs.Prelude.{◌≡◌, ℕ, List, Result, Ok, Err}
use Rattle.mp4_codec.specs.declared.error.Error.{Error}
use Rattle.mp4_codec.specs.Cause.{Cause, cause_of}
use Rattle.mp4_lookup.specs.declared.track.Mp4Track.{Mp4Track}
use Rattle.mp4_media.specs.declared.reader.Mp4Reader.{Mp4Reader}
use Rattle.mp4_media.specs.Reading.{needed_track}
use Rattle.mp4_media.specs.Opening.{IsOpening}
use Rattle.mp4_c.specs.declared.answer.Answer.{Answer}
use Rattle.mp4_c.specs.Answers.{refused}

-- what a call answers, and what it makes of the room that it was given
pub record Reply (T : Type 0) : Type 0 where
  pub answer : Answer
  pub room : T

-- a call has replied this
abbrev pub Gave : {T : Type 0} → Reply T → T → Answer → Type 0
Gave reply new answer = reply ≡ record { answer = answer; room = new }

-- a refusal leaves the room as it was
abbrev pub refusal : {T : Type 0} → Cause → T → Reply T
refusal c room = record { answer = refused c; room = room }

-- this holds of what was opened, and a file that doesn't open is refused
abbrev pub OnOpened : {T : Type 0} → (Mp4Reader → T → T → Answer → Type 0) → Result Mp4Reader Error → T → T → Answer
    → Type 0
OnOpened Does (Ok movie) old new answer = Does movie old new answer
OnOpened Does (Err e) old new answer = Gave (refusal (cause_of e) old) new answer

-- A call opens these bytes, as `read_mp4` does and as its contract says, and does so with what that answers.
abbrev pub OnFile : {T : Type 0} → List ℕ → (Mp4Reader → T → T → Answer → Type 0) → T → T → Answer → Type 0
OnFile file Does old new answer =
    (opened : Result Mp4Reader Error) × (IsOpening file opened) × (OnOpened Does opened old new answer)

-- this holds of a track that is there, and one that isn't is refused
abbrev pub OnNeeded : {T : Type 0} → (Mp4Track → T → T → Answer → Type 0) → Result Mp4Track Cause → T → T → Answer
    → Type 0
OnNeeded Does (Ok t) old new answer = Does t old new answer
OnNeeded Does (Err c) old new answer = Gave (refusal c old) new answer

-- the same of the track with this id of an opened file
abbrev pub OnTrack : {T : Type 0} → ℕ → (Mp4Track → T → T → Answer → Type 0) → Mp4Reader → T → T → Answer → Type 0
OnTrack id Does movie old new answer = OnNeeded Does (needed_track movie.movie.tracks id) old new answer
