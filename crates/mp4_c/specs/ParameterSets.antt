-- The parameter sets of a track of AVC video.
use Rattle.std.specs.Prelude.{ℕ, List, Result, Ok, Err, ◌==◌, if◌then◌else◌}
use Rattle.mp4_codec.specs.Cause.{Cause}
use Rattle.mp4_lookup.specs.declared.track.Mp4Track.{Mp4Track}
use Rattle.mp4_lookup.specs.Codec.{picture_set_of, sequence_set_of}
use Rattle.mp4_c.specs.declared.answer.Answer.{Answer}
use Rattle.mp4_c.specs.Answers.{plain}
use Rattle.mp4_c.specs.Replies.{Gave, Reply, refusal}
use Rattle.mp4_c.specs.Rooms.{copied, with_front}

-- what is replied of bytes that are copied, where they fit
abbrev pub bytes_reply : Result (List ℕ) Cause → List ℕ → Reply (List ℕ)
bytes_reply (Ok bytes) room = record { answer = copied bytes room; room = with_front bytes room }
bytes_reply (Err c) room = refusal c room

-- what is replied of the first parameter set of a kind: 1 is a sequence, 2 a picture parameter set
abbrev pub set_reply : ℕ → Mp4Track → List ℕ → Reply (List ℕ)
set_reply kind t room =
    if kind == 1 then bytes_reply (sequence_set_of t.trak) room else
    if kind == 2 then bytes_reply (picture_set_of t.trak) room else
    record { answer = plain 18; room = room }

-- a call has copied the first parameter set of a kind
abbrev pub GaveSet : ℕ → Mp4Track → List ℕ → List ℕ → Answer → Type 0
GaveSet kind t old new answer = Gave (set_reply kind t old) new answer
