-- What a call answers that reads a source.
use Rattle.std.specs.Prelude.{◌≡◌, ◌⊎◌, ℕ, ⊤, Bool, IsTrue, List, length, Option, IfSome, Result, Ok, Err}
use Rattle.mp4_codec.specs.declared.error.Error.{Error}
use Rattle.mp4_codec.specs.declared.error.Error.TheVariants.{OutOfMemory}
use Rattle.mp4_codec.specs.Cause.{Cause, cause_of}
use Rattle.mp4_codec.specs.Cursor.{here, header_at}
use Rattle.mp4_codec.specs.declared.header.BoxHeader.{BoxHeader}
use Rattle.mp4_source.specs.declared.error.SourceError.{SourceError}
use Rattle.mp4_source.specs.declared.error.SourceError.TheVariants.{OutOfMemory as no_memory, Io as refused}
use Rattle.mp4_source.specs.declared.file_error.FileError.{FileError}
use Rattle.mp4_source.specs.declared.file_error.FileError.TheVariants.{Mp4, Io}

-- an error of a source, as one of its file
abbrev pub told_as : SourceError → FileError
told_as no_memory = Mp4 OutOfMemory
told_as (refused e) = Io e

-- what holds of the error of an MP4 file
abbrev pub OnMp4 : FileError → (Error → Type 0) → Type 0
OnMp4 (Mp4 e) P = P e
OnMp4 (Io e) P = ⊤

-- the source refused a read
abbrev pub IsIo : FileError → Type 0
IsIo (Mp4 e) = ⊥
IsIo (Io e) = ⊤

-- A refusal of a call with this answer: it is the answer's, or memory ran out; or the source refused, which can.
abbrev pub RefusesRead : {Y : Type 0} → Bool → FileError → Result Y Cause → Type 0
RefusesRead can_refuse (Mp4 e) answer = (e ≡ OutOfMemory) ⊎ (answer ≡ Err (cause_of e))
RefusesRead can_refuse (Io e) answer = IsTrue can_refuse

-- The answer is this one, or a refusal as above.
abbrev pub AnswersRead : {X Y : Type 0} → Bool → (X → Y) → Result X FileError → Result Y Cause → Type 0
AnswersRead can_refuse view (Ok x) answer = answer ≡ Ok (view x)
AnswersRead can_refuse view (Err e) answer = RefusesRead can_refuse e answer

-- so many bytes there are, where they are known
abbrev pub IsLength : Option (List ℕ) → ℕ → Type 0
IsLength known len = IfSome known (λ bytes. len ≡ length bytes)

-- this is the value of some payload
abbrev pub IsSomeValue : {X : Type 0} → (List ℕ → Result X Cause) → X → Type 0
IsSomeValue value x = (payload : List ℕ) × (value payload ≡ Ok x)

-- this is the header with which some bytes begin, and it has so many bytes
abbrev pub IsSomeHeader : BoxHeader → ℕ → Type 0
IsSomeHeader header n = (bytes : List ℕ) × (header_at (here bytes 0) ≡ Ok (header, here bytes n))
