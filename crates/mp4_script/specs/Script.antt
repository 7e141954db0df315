-- What a script makes: its lines are run one after the other, each as one step of a writer.
use Rattle.std.specs.Prelude.{◌≡◌, ◌⊎◌, ℕ, ◌+◌, List, [], ◌∷◌, ◌++◌, length, Option, Some, None, Result, Ok, Err, codes}
use Rattle.std.specs.List.{fold}
use Rattle.mp4_media.specs.Error.{Error}
use Rattle.mp4_media.specs.Error.TheVariants.{OutOfMemory}
use Rattle.mp4_media.specs.Cause.{Cause, cause_of}
use Rattle.mp4_media.specs.Mp4Config.{Mp4Config}
use Rattle.mp4_media.specs.Writing.{WriterState, AcceptedTrack, started, with_end, end_cause, whole_of}
use Rattle.mp4_media.specs.Calls.{Call, step, call_cause, accept}
use Rattle.mp4_media.specs.declared.reader.Mp4Reader.{Mp4Reader}
use Rattle.mp4_media.specs.Opening.{IsOpening}
use Rattle.mp4_media.specs.RoundTrip.{HasExactly, OpensAs}
use Rattle.mp4_script.specs.Commands.{command_in}
use Rattle.mp4_script.specs.Lines.{lines_of}
use Rattle.mp4_script.specs.declared.script.ScriptFault.{ScriptFault}
use Rattle.mp4_script.specs.declared.script.ScriptFault.TheVariants.{NotACommand, Refused, End}

-- why a script makes no movie, without the text of a refusal
pub data ScriptCause : Type 0 where
  not_a_command : ℕ → ScriptCause
  refused : ℕ → Cause → ScriptCause
  at_end : Cause → ScriptCause

abbrev pub script_cause_of : ScriptFault → ScriptCause
script_cause_of (NotACommand line) = not_a_command line
script_cause_of (Refused line e) = refused line (cause_of e)
script_cause_of (End e) = at_end (cause_of e)

-- what each movie of a script is begun with
abbrev pub standard_config : Mp4Config
standard_config = record {
  major_brand = record { value = codes "isom" };
  minor_version = 512;
  compatible_brands =
      record { value = codes "isom" }
      ∷ record { value = codes "iso2" }
      ∷ record { value = codes "avc1" }
      ∷ record { value = codes "mp41" }
      ∷ [];
  timescale = 1000;
}

-- the writer that a script begins with: there is nothing before its movie
abbrev pub standard_writer : WriterState
standard_writer = started [] standard_config

-- the call of the line of this number: it is made, or refused for its cause; no other line is a command
abbrev pub called : ℕ → WriterState → Option Call → Result WriterState ScriptCause
called number writer None = Err (not_a_command number)
called number writer (Some call) = elim (call_cause writer call) [
  | None ↦ Ok (step writer call)
  | Some cause ↦ Err (refused number cause)
]

-- the line of this number: an empty one changes nothing, and any other makes its call
abbrev pub line_step : ℕ → List ℕ → WriterState → Result WriterState ScriptCause
line_step number [] writer = Ok writer
line_step number (byte ∷ bytes) writer = called number writer (command_in (byte ∷ bytes))

-- a step, and where it is not at fault, the next
infixl 10 ◌>>=◌
abbrev pub ◌>>=◌ : {A B : Type 0} → Result A ScriptCause → (A → Result B ScriptCause) → Result B ScriptCause
(Ok x) >>= f = f x
(Err c) >>= f = Err c

-- lines, one after the other; the first of them has this number
unfoldable pub run_from : ℕ → List (List ℕ) → WriterState → Result WriterState ScriptCause
run_from number [] writer = Ok writer
run_from number (line ∷ lines) writer = line_step number line writer >>= run_from (number + 1) lines

-- the lines of a script, from the first to the last; the first has number 1
abbrev pub run_all : List ℕ → WriterState → Result WriterState ScriptCause
run_all script writer = run_from 1 (lines_of script) writer

-- the bytes of a movie that is ended
abbrev pub ended_movie : WriterState → Result (List ℕ) ScriptCause
ended_movie writer = elim (end_cause writer) [
  | None ↦ Ok (whole_of (with_end writer))
  | Some cause ↦ Err (at_end cause)
]

-- the bytes of the movie that a script makes: it is begun, the lines are run, and it is ended
abbrev pub movie_made_by : List ℕ → Result (List ℕ) ScriptCause
movie_made_by script = run_all script standard_writer >>= ended_movie

-- a line that calls the writer
abbrev pub CallsWriter : List ℕ → Type 0
CallsWriter line = (call : Call) × (command_in line ≡ Some call)

-- memory ran out in the call of a line, which has this number
abbrev pub RanOutAt : ℕ → List ℕ → ScriptFault → Type 0
RanOutAt number line fault = CallsWriter line × (fault ≡ Refused number OutOfMemory)

-- why the line of this number gives no call: it is no command, or memory ran out for its call
abbrev pub IsFaultOfLine : ℕ → List ℕ → ScriptFault → Type 0
IsFaultOfLine number line fault =
    ((command_in line ≡ None) × (fault ≡ NotACommand number)) ⊎ RanOutAt number line fault

-- memory ran out in the call of a line of a script, and the lines before it were run
pub record RanOutIn (script : List ℕ) (writer : WriterState) (fault : ScriptFault) : Type 0 where
  pub before : List (List ℕ)
  pub line : List ℕ
  pub after : List (List ℕ)
  pub next : WriterState
  pub lines : lines_of script ≡ before ++ (line ∷ after)
  pub run : run_from 1 before writer ≡ Ok next
  pub ran_out : RanOutAt (length before + 1) line fault

-- memory ran out where the movie was begun or ended, or in the call of a line
abbrev pub RanOut : List ℕ → ScriptFault → Type 0
RanOut script fault = (fault ≡ End OutOfMemory) ⊎ RanOutIn script standard_writer fault

-- What a call returned, seen by view, is this answer, or memory ran out in the way that is given.
abbrev pub AnswersScript : {X Y : Type 0} → (ScriptFault → Type 0) → (X → Y)
    → Result X ScriptFault → Result Y ScriptCause → Type 0
AnswersScript ran_out view (Ok x) answer = answer ≡ Ok (view x)
AnswersScript ran_out view (Err fault) answer = ran_out fault ⊎ (answer ≡ Err (script_cause_of fault))

-- the calls that lines name, in their order
unfoldable pub calls_in : List (List ℕ) → List Call
calls_in [] = []
calls_in (line ∷ lines) = elim (command_in line) [ None ↦ calls_in lines | Some call ↦ call ∷ calls_in lines ]

-- what a script's calls accept, where none is refused: its tracks, and their samples
abbrev pub accepted_by_script : List ℕ → List AcceptedTrack
accepted_by_script script = fold accept [] (calls_in (lines_of script))

-- the bytes of a script's movie open, or memory runs out, and the movie has exactly the script's tracks and samples
abbrev pub OpensAsScripted : List ℕ → List ℕ → Type 0
OpensAsScripted script bytes =
    (read : Result Mp4Reader Error) → IsOpening bytes read
    → OpensAs (λ movie. HasExactly movie (accepted_by_script script)) read
