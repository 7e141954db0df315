-- Calls of a writer with their replies: what they make of it, and what they accept.
use Rattle.std.specs.Prelude.{◌≡◌, ℕ, ◌-◌, ◌^◌, ◌<◌, List, [], ◌∷◌, ◌++◌, Option, Result, FitsSigned, ⊤}
use Rattle.std.specs.Prelude.{Bool, true, false, ◌&&◌, ◌||◌, is_ok, if◌then◌else◌, slice_index_or, slice_set}
use Rattle.std.specs.Int.{w32}
use Rattle.std.specs.List.{AllByRecursion}
use Rattle.mp4_codec.specs.declared.error.Error.{Error}
use Rattle.mp4_codec.specs.Cause.{Cause, AnswersCause}
use Rattle.mp4_samples.specs.Samples.{Sample}
use Rattle.mp4_mux.specs.declared.config.Mp4Config.{Mp4Config}
use Rattle.mp4_mux.specs.declared.config.TrackConfig.{TrackConfig}
use Rattle.mp4_mux.specs.Config.{IsInRangeTrackConfig}
use Rattle.mp4_mux.specs.Writing.{WriterState, AcceptedTrack, no_track, started, with_track, with_sample, with_end}
use Rattle.mp4_mux.specs.Writing.{track_cause, sample_cause, end_cause}

-- a call of a writer
pub data Call : Type 0 where
  add_track : TrackConfig → Call
  write_sample : ℕ → Sample → Call
  write_end : Call

-- what it was answered
abbrev pub Reply : Type 0
Reply = Result (Unit {0}) Error

-- each number of a sample is within its type, but for the count of its bytes, which may pass 32 bits
pub record IsInRangeSample (s : Sample) : Type 0 where
  pub duration : s.duration < 2 ^ 32
  pub rendering_offset : FitsSigned w32 s.rendering_offset

-- each number of a call is within its type
abbrev pub IsInRangeCall : Call → Type 0
IsInRangeCall (add_track config) = IsInRangeTrackConfig config
IsInRangeCall (write_sample id s) = IsInRangeSample s
IsInRangeCall write_end = ⊤

-- what a call makes of a writer, if it is not refused
abbrev pub step : WriterState → Call → WriterState
step st (add_track config) = with_track st config
step st (write_sample id s) = with_sample st id s
step st write_end = with_end st

-- why a call is refused
abbrev pub call_cause : WriterState → Call → Option Cause
call_cause st (add_track config) = track_cause st config
call_cause st (write_sample id s) = sample_cause st id s
call_cause st write_end = end_cause st

-- a writer after a call with its reply: a refused call changes nothing
abbrev pub after_reply : WriterState → Call → Reply → WriterState
after_reply st call reply = if is_ok reply then step st call else st

-- a writer after calls with their replies
unfoldable pub after : List Call → List Reply → WriterState → WriterState
after [] replies st = st
after (call ∷ calls) [] st = st
after (call ∷ calls) (reply ∷ replies) st = after calls replies (after_reply st call reply)

-- each call has its reply: just the cause where there is one, else Ok, or that memory ran out
unfoldable pub Answered : List Call → List Reply → WriterState → Type 0
Answered [] [] st = ⊤
Answered [] (reply ∷ replies) st = ⊥
Answered (call ∷ calls) [] st = ⊥
Answered (call ∷ calls) (reply ∷ replies) st =
    AnswersCause (call_cause st call) reply × Answered calls replies (after_reply st call reply)

-- a call that ends the movie
abbrev pub is_end : Call → Bool
is_end (add_track config) = false
is_end (write_sample id s) = false
is_end write_end = true

-- an end was answered with Ok
unfoldable pub has_end : List Call → List Reply → Bool
has_end [] replies = false
has_end (call ∷ calls) [] = false
has_end (call ∷ calls) (reply ∷ replies) = (is_end call && is_ok reply) || has_end calls replies

-- one writer has the front and the configuration of another
pub record HasSameFront (st new : WriterState) : Type 0 where
  pub front : new.front ≡ st.front
  pub config : new.config ≡ st.config

-- a track that was not accepted
abbrev pub none_accepted : AcceptedTrack
none_accepted = record { config = no_track.config; samples = [] }

-- what is accepted when a call is answered with Ok: a new track has no samples, a sample is its track's last
abbrev pub accept : List AcceptedTrack → Call → List AcceptedTrack
accept tracks (add_track config) = tracks ++ record { config = config; samples = [] } ∷ []
accept tracks (write_sample id s) =
    let track = slice_index_or tracks (id - 1) none_accepted in
    slice_set tracks (id - 1) (record track { samples = track.samples ++ s ∷ [] })
accept tracks write_end = tracks

-- what is accepted after calls with their replies
unfoldable pub accepted_after : List Call → List Reply → List AcceptedTrack → List AcceptedTrack
accepted_after [] replies tracks = tracks
accepted_after (call ∷ calls) [] tracks = tracks
accepted_after (call ∷ calls) (reply ∷ replies) tracks =
    accepted_after calls replies (if is_ok reply then accept tracks call else tracks)

-- a writer that was begun, the calls of it, and their replies
pub record Session : Type 0 where
  pub front : List ℕ
  pub config : Mp4Config
  pub calls : List Call
  pub replies : List Reply

-- each number of a call is within its type, and each call has its reply
pub record IsAnswered (session : Session) : Type 0 where
  pub fits : AllByRecursion IsInRangeCall session.calls
  pub replies : Answered session.calls session.replies (started session.front session.config)

-- the writer after its calls
abbrev pub writer_of : Session → WriterState
writer_of session = after session.calls session.replies (started session.front session.config)

-- what its calls have accepted: no chunk is looked at
abbrev pub accepted_by : Session → List AcceptedTrack
accepted_by session = accepted_after session.calls session.replies []

-- and its end was written
pub record IsEnded (session : Session) : Type 0 where
  pub answered : IsAnswered session
  pub ended : (writer_of session).ended ≡ true
