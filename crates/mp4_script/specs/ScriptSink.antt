-- What is answered of a script whose movie goes to a sink: of a line, of a part of the script, and at its end.
use Rattle.std.specs.Prelude.{◌≡◌, ◌⊎◌, ⊤, ℕ, ◌+◌, ◌-◌, ◌^◌, ◌<◌, Bool, List, [], ◌∷◌, ◌++◌, length, min, Option, None}
use Rattle.std.specs.Prelude.{IfSome, IsTrue, Result, Ok, Err}
use Rattle.mp4_media.specs.Error.{Error}
use Rattle.mp4_media.specs.Error.TheVariants.{OutOfMemory}
use Rattle.mp4_media.specs.WriterFields.{KeptMovie, MayHold}
use Rattle.mp4_media.specs.declared.write_error.WriteError.{WriteError}
use Rattle.mp4_media.specs.declared.write_error.WriteError.TheVariants.{Mp4, Io, Failed}
use Rattle.mp4_media.specs.Writing.{WriterState, end_cause, whole_of}
use Rattle.mp4_script.specs.Lines.{lines_of}
use Rattle.mp4_script.specs.Script.{ScriptCause, script_cause_of, line_step, run_from, run_all, ended_movie, ◌>>=◌}
use Rattle.mp4_script.specs.declared.script.ScriptFault.{ScriptFault}
use Rattle.mp4_script.specs.declared.script.ScriptFault.TheVariants.{Refused, End}
use Rattle.mp4_script.specs.declared.script_writer.ScriptWriteFault.{ScriptWriteFault}
use Rattle.mp4_script.specs.declared.script_writer.ScriptWriteFault.TheVariants.{Script, Sink}

-- A sink may refuse a call: it is one that can, or its movie has 2^63 bytes or more.
abbrev pub MayRefuse : Bool → ℕ → Type 0
MayRefuse can_refuse len = len < 2 ^ 63 → IsTrue can_refuse

-- After a line the writer may have the state that the answer says; or it is refused so, or it is out of memory in the way
-- that is given; or the line is at no fault, and the sink refused, which it may here.
abbrev pub AnswersInSink : {X : Type 0} → (ScriptFault → Type 0) → Type 0 → KeptMovie
    → Result X ScriptWriteFault → Result WriterState ScriptCause → Type 0
AnswersInSink ran_out Refuses after (Ok x) answer = (next : WriterState) × (answer ≡ Ok next) × (MayHold after next)
AnswersInSink ran_out Refuses after (Err (Script fault)) answer = ran_out fault ⊎ (answer ≡ Err (script_cause_of fault))
AnswersInSink ran_out Refuses after (Err (Sink e)) answer = Refuses × ((next : WriterState) × (answer ≡ Ok next))

-- a writer's error as that of a script; one of the sink stays one
abbrev pub IsToldAs : (Error → ScriptFault) → WriteError → ScriptWriteFault → Type 0
IsToldAs tell (Mp4 e) (Script fault) = fault ≡ tell e
IsToldAs tell (Mp4 e) (Sink refused) = ⊥
IsToldAs tell (Io e) (Script fault) = ⊥
IsToldAs tell (Io e) (Sink refused) = ⊤
IsToldAs tell Failed (Script fault) = ⊥
IsToldAs tell Failed (Sink refused) = ⊤

-- the script's fault, which is one of these; or the sink's, which may refuse here
abbrev pub IsToldIn : ScriptWriteFault → (ScriptFault → Type 0) → Type 0 → Type 0
IsToldIn (Script fault) IsFault Refuses = IsFault fault
IsToldIn (Sink e) IsFault Refuses = Refuses

-- the number of the line after so many; a number has 64 bits
abbrev pub next_number : ℕ → ℕ
next_number count = min (count + 1) (2 ^ 64 - 1)

-- So much of a script was written, and its writer began with this state: the lines that end in it were run, and what is
-- after the last line feed is kept.
pub record IsAfter (script : List ℕ) (begun : WriterState) (writer : KeptMovie) (count : ℕ) (kept : List ℕ) : Type 0 where
  pub lines : List (List ℕ)
  pub cut : lines_of script ≡ lines ++ (kept ∷ [])
  pub next : WriterState
  pub run : run_from 1 lines begun ≡ Ok next
  pub may_hold : MayHold writer next
  pub counted : count ≡ length lines

-- a line of a script, and the state that those before it make
pub record IsReached (script : List ℕ) (begun : WriterState) (number : ℕ) (line : List ℕ) (more : ℕ) (next : WriterState)
    : Type 0 where
  pub before : List (List ℕ)
  pub after : List (List ℕ)
  pub lines : lines_of script ≡ before ++ (line ∷ after)
  pub run : run_from 1 before begun ≡ Ok next
  pub counted : number ≡ length before + 1
  pub others : more ≡ length after

-- A line of a script is at fault, of which so much was written: out of memory, or it has a line feed and is refused.
pub record IsFirstFault (script : List ℕ) (begun : WriterState) (fault : ScriptFault) : Type 0 where
  pub number : ℕ
  pub line : List ℕ
  pub more : ℕ
  pub next : WriterState
  pub reached : IsReached script begun number line more next
  pub cause : (fault ≡ Refused number OutOfMemory)
      ⊎ ((0 < more) × (line_step number line next ≡ Err (script_cause_of fault)))

-- a line of a script is at no fault, and the sink refused, which it may
pub record IsFirstRefusal (script : List ℕ) (begun : WriterState) (can_refuse : Bool) : Type 0 where
  pub number : ℕ
  pub line : List ℕ
  pub more : ℕ
  pub next : WriterState
  pub reached : IsReached script begun number line more next
  pub later : WriterState
  pub no_fault : line_step number line next ≡ Ok later
  pub may_refuse : MayRefuse can_refuse (length (whole_of next))

-- what a part of a script is answered, with which so much was written
abbrev pub AnswersPart : {X : Type 0} → List ℕ → WriterState → KeptMovie → ℕ → List ℕ
    → Result X ScriptWriteFault → Type 0
AnswersPart script begun writer count kept (Ok x) = IsAfter script begun writer count kept
AnswersPart script begun writer count kept (Err e) =
    IsToldIn e (IsFirstFault script begun) (IsFirstRefusal script begun writer.media.can_refuse)

-- out of memory at a line, or where the movie was ended
abbrev pub RanOutOfMemory : ScriptFault → Type 0
RanOutOfMemory fault = (fault ≡ End OutOfMemory) ⊎ ((number : ℕ) × (fault ≡ Refused number OutOfMemory))

-- all lines are at no fault, nor is the end, and the sink refused the end, which it may
pub record IsEndRefusal (script : List ℕ) (begun : WriterState) (can_refuse : Bool) : Type 0 where
  pub next : WriterState
  pub run : run_all script begun ≡ Ok next
  pub no_fault : end_cause next ≡ None
  pub may_refuse : MayRefuse can_refuse (length (whole_of next))

-- What the end of a script is answered: the sink has the movie's bytes, where these are known, and as many; or the
-- movie's fault is the answer, or out of memory, or the sink refused.
abbrev pub AnswersEnd : {S : Type 0} → List ℕ → WriterState → (S → Option (List ℕ)) → (S → ℕ) → Bool
    → Result S ScriptWriteFault → Type 0
AnswersEnd script begun contents len can_refuse (Ok sink) =
    (bytes : List ℕ) × ((run_all script begun >>= ended_movie) ≡ Ok bytes) × (len sink ≡ length bytes)
    × IfSome (contents sink) (λ held. held ≡ bytes)
AnswersEnd script begun contents len can_refuse (Err e) =
    IsToldIn e
    (λ fault. RanOutOfMemory fault ⊎ ((run_all script begun >>= ended_movie) ≡ Err (script_cause_of fault)))
    (IsFirstRefusal script begun can_refuse ⊎ IsEndRefusal script begun can_refuse)
