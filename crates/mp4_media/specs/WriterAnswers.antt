-- What a call of a writer answers that writes to a sink.
use Rattle.std.specs.Prelude.{◌≡◌, ⊤, true, Option, Some, None, Result, Ok, Err}
use Rattle.mp4_codec.specs.declared.error.Error.{Error}
use Rattle.mp4_codec.specs.declared.error.Error.TheVariants.{OutOfMemory}
use Rattle.mp4_codec.specs.Cause.{Cause, cause_of}
use Rattle.mp4_source.specs.declared.sink_error.SinkError.{SinkError}
use Rattle.mp4_source.specs.declared.sink_error.SinkError.TheVariants.{OutOfMemory as no_memory, Io as refused}
use Rattle.mp4_media.specs.declared.write_error.WriteError.{WriteError}
use Rattle.mp4_media.specs.declared.write_error.WriteError.TheVariants.{Mp4, Io, Failed}
use Rattle.mp4_media.specs.WriterFields.{KeptMovie}

-- a sink's error, as one of its writer
abbrev pub told_as : SinkError → WriteError
told_as no_memory = Mp4 OutOfMemory
told_as (refused e) = Io e

-- this error, where there may be a cause: just the cause; else memory ran out, or the sink refused, which it may here
abbrev pub RefusesWrite : Type 0 → Option Cause → WriteError → Type 0
RefusesWrite MayRefuse None (Mp4 e) = e ≡ OutOfMemory
RefusesWrite MayRefuse (Some c) (Mp4 e) = c ≡ cause_of e
RefusesWrite MayRefuse None (Io e) = MayRefuse
RefusesWrite MayRefuse (Some c) (Io e) = ⊥
RefusesWrite MayRefuse cause Failed = ⊥

-- the answer is Ok, where there is no cause, or such an error
abbrev pub AnswersWrite : {X : Type 0} → Type 0 → Option Cause → Result X WriteError → Type 0
AnswersWrite MayRefuse cause (Ok x) = cause ≡ None
AnswersWrite MayRefuse cause (Err e) = RefusesWrite MayRefuse cause e

-- the sink had refused an earlier call
abbrev pub IsFailed : WriteError → Type 0
IsFailed (Mp4 e) = ⊥
IsFailed (Io e) = ⊥
IsFailed Failed = ⊤

-- What a refusal leaves: all as it was, unless the sink refuses: then no later call is made.
abbrev pub LeavesWriter : WriteError → KeptMovie → KeptMovie → Type 0
LeavesWriter (Mp4 e) before after = after ≡ before
LeavesWriter (Io e) before after = after.failed ≡ true
LeavesWriter Failed before after = after ≡ before

-- an error that isn't the sink's
abbrev pub IsMp4 : WriteError → Type 0
IsMp4 (Mp4 e) = ⊤
IsMp4 (Io e) = ⊥
IsMp4 Failed = ⊥

-- the same answer, where the sink refuses nothing
abbrev pub IsSameAnswer : {X : Type 0} → Result X WriteError → Result X Error → Type 0
IsSameAnswer (Ok x) (Ok y) = x ≡ y
IsSameAnswer (Ok x) (Err f) = ⊥
IsSameAnswer (Err e) (Ok y) = ⊥
IsSameAnswer (Err e) (Err f) = e ≡ Mp4 f
