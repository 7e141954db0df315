-- Why a movie isn't rewritten.
use Rattle.std.specs.Prelude.{◌≡◌, ◌⊎◌, ⊤, ℕ, Bool, IsTrue, List, length, Option, IfSome, Result, Ok, Err}
use Rattle.mp4_codec.specs.declared.error.Error.TheVariants.{OutOfMemory}
use Rattle.mp4_codec.specs.Cause.{Cause, cause_of, trak_not_found}
use Rattle.mp4_codec.specs.Cursor.{here}
use Rattle.mp4_source.specs.declared.error.SourceError.{SourceError}
use Rattle.mp4_source.specs.declared.error.SourceError.TheVariants.{OutOfMemory as no_memory, Io as refused}
use Rattle.mp4_source.specs.declared.sink_error.SinkError.{SinkError}
use Rattle.mp4_source.specs.declared.sink_error.SinkError.TheVariants.{OutOfMemory as no_room, Io as sink_refused}
use Rattle.mp4_source.specs.declared.file_error.FileError.{FileError}
use Rattle.mp4_source.specs.declared.file_error.FileError.TheVariants.{Mp4 as of_mp4, Io as file_refused}
use Rattle.mp4_source.specs.Source.{HasPart}
use Rattle.mp4_media.specs.FileBoxes.{OpenedFile}
use Rattle.mp4_media.specs.FileGrammar.{IsFaultyFile, IsFile}
use Rattle.mp4_remux.specs.Reads.{IsMissing}
use Rattle.mp4_remux.specs.declared.layout_error.LayoutError.{LayoutError}
use Rattle.mp4_remux.specs.declared.layout_error.LayoutError.TheVariants.{Mp4 as of_movie, TooManySamples as too_many}
use Rattle.mp4_remux.specs.declared.layout_error.LayoutError.TheVariants.{StartsElsewhere as elsewhere}
use Rattle.mp4_remux.specs.declared.layout_error.LayoutError.TheVariants.{SameIds as same_ids, OtherTracks as other}
use Rattle.mp4_remux.specs.declared.layout_error.LayoutError.TheVariants.{Differs as differs}
use Rattle.mp4_remux.specs.declared.error.RemuxError.{RemuxError}
use Rattle.mp4_remux.specs.declared.error.RemuxError.TheVariants.{Mp4, Read, Write, Twice, SaysPlaces}
use Rattle.mp4_remux.specs.declared.error.RemuxError.TheVariants.{TooManySamples, OtherTracks, Differs}
use Rattle.mp4_remux.specs.declared.error.RemuxError.TheVariants.{SaysOfSamples, StartsElsewhere, SameIds}

-- an error of a file that is read
abbrev pub of_file : FileError → RemuxError
of_file (of_mp4 e) = Mp4 e
of_file (file_refused e) = Read e

-- an error of a source
abbrev pub of_source : SourceError → RemuxError
of_source no_memory = Mp4 OutOfMemory
of_source (refused e) = Read e

-- an error of a sink
abbrev pub of_sink : SinkError → RemuxError
of_sink no_room = Mp4 OutOfMemory
of_sink (sink_refused e) = Write e

-- why no layout is made, or one that was isn't written
abbrev pub of_layout : LayoutError → RemuxError
of_layout (of_movie e) = Mp4 e
of_layout (too_many track) = TooManySamples track
of_layout (elsewhere track number) = StartsElsewhere track number
of_layout same_ids = SameIds
of_layout other = OtherTracks
of_layout (differs track number) = Differs track number

-- Bytes aren't copied: out of memory, or the source refused, which can; or the sink, which can.
abbrev pub CopyFails : Type 0 → Bool → RemuxError → Type 0
CopyFails SourceRefuses sink_refuses (Mp4 e) = e ≡ OutOfMemory
CopyFails SourceRefuses sink_refuses (Read e) = SourceRefuses
CopyFails SourceRefuses sink_refuses (Write e) = IsTrue sink_refuses
CopyFails SourceRefuses sink_refuses (Twice name) = ⊥
CopyFails SourceRefuses sink_refuses (SaysPlaces name place) = ⊥
CopyFails SourceRefuses sink_refuses (TooManySamples track) = ⊥
CopyFails SourceRefuses sink_refuses (SaysOfSamples name place) = ⊥
CopyFails SourceRefuses sink_refuses (StartsElsewhere track number) = ⊥
CopyFails SourceRefuses sink_refuses SameIds = ⊥
CopyFails SourceRefuses sink_refuses OtherTracks = ⊥
CopyFails SourceRefuses sink_refuses (Differs track number) = ⊥

-- a refusal that is neither of memory nor of the source nor of the sink
abbrev pub IsNamed : RemuxError → Type 0
IsNamed (Mp4 e) = e ≡ OutOfMemory → ⊥
IsNamed (Read e) = ⊥
IsNamed (Write e) = ⊥
IsNamed (Twice name) = ⊤
IsNamed (SaysPlaces name place) = ⊤
IsNamed (TooManySamples track) = ⊤
IsNamed (SaysOfSamples name place) = ⊤
IsNamed (StartsElsewhere track number) = ⊤
IsNamed SameIds = ⊤
IsNamed OtherTracks = ⊤
IsNamed (Differs track number) = ⊤

-- a refusal that says that one file isn't the other
abbrev pub SaysOther : RemuxError → Type 0
SaysOther (Mp4 e) = ⊥
SaysOther (Read e) = ⊥
SaysOther (Write e) = ⊥
SaysOther (Twice name) = ⊥
SaysOther (SaysPlaces name place) = ⊥
SaysOther (TooManySamples track) = ⊥
SaysOther (SaysOfSamples name place) = ⊥
SaysOther (StartsElsewhere track number) = ⊥
SaysOther SameIds = ⊥
SaysOther OtherTracks = ⊤
SaysOther (Differs track number) = ⊤

-- a refusal of the source is one only where it refuses, and one of the sink only where that does
abbrev pub IsRefusalOf : Type 0 → Type 0 → RemuxError → Type 0
IsRefusalOf SourceRefuses SinkRefuses (Mp4 e) = ⊤
IsRefusalOf SourceRefuses SinkRefuses (Read e) = SourceRefuses
IsRefusalOf SourceRefuses SinkRefuses (Write e) = SinkRefuses
IsRefusalOf SourceRefuses SinkRefuses (Twice name) = ⊤
IsRefusalOf SourceRefuses SinkRefuses (SaysPlaces name place) = ⊤
IsRefusalOf SourceRefuses SinkRefuses (TooManySamples track) = ⊤
IsRefusalOf SourceRefuses SinkRefuses (SaysOfSamples name place) = ⊤
IsRefusalOf SourceRefuses SinkRefuses (StartsElsewhere track number) = ⊤
IsRefusalOf SourceRefuses SinkRefuses SameIds = ⊤
IsRefusalOf SourceRefuses SinkRefuses OtherTracks = ⊤
IsRefusalOf SourceRefuses SinkRefuses (Differs track number) = ⊤

-- where the bytes of a source are known, it refuses only if it can
abbrev pub MayRefuse : Option (List ℕ) → Bool → Type 0
MayRefuse known can_refuse = IfSome known (λ _. IsTrue can_refuse)

-- a refusal for this cause, but where memory ran out, or the source refused, which can
abbrev pub IsCause : Bool → Cause → RemuxError → Type 0
IsCause can_refuse c (Mp4 e) = (e ≡ OutOfMemory) ⊎ (c ≡ cause_of e)
IsCause can_refuse c (Read e) = IsTrue can_refuse
IsCause can_refuse c (Write e) = ⊥
IsCause can_refuse c (Twice name) = ⊥
IsCause can_refuse c (SaysPlaces name place) = ⊥
IsCause can_refuse c (TooManySamples track) = ⊥
IsCause can_refuse c (SaysOfSamples name place) = ⊥
IsCause can_refuse c (StartsElsewhere track number) = ⊥
IsCause can_refuse c SameIds = ⊥
IsCause can_refuse c OtherTracks = ⊥
IsCause can_refuse c (Differs track number) = ⊥

-- a call is refused so
abbrev pub GivesCause : {X : Type 0} → Bool → Cause → Result X RemuxError → Type 0
GivesCause can_refuse c (Ok x) = ⊥
GivesCause can_refuse c (Err e) = IsCause can_refuse c e

-- A file whose bytes are known and have a fault is refused for the first one.
abbrev pub SaysFault : {X : Type 0} → Option (List ℕ) → Bool → Result X RemuxError → Type 0
SaysFault known can_refuse result = IfSome known (λ xs. (c : Cause) → IsFaultyFile (length xs) (here xs 0) c
    → GivesCause can_refuse c result)

-- Where the bytes are known, memory runs out only where they have room for the header of a box: else none is asked for.
abbrev pub TakesMemory : {X : Type 0} → Option (List ℕ) → Result X RemuxError → Type 0
TakesMemory known (Ok x) = ⊤
TakesMemory known (Err e) = e ≡ Mp4 OutOfMemory → HasPart known 0 8

-- Where the bytes are known and are a file, it is refused for memory alone, or by the source.
abbrev pub IsNoFault : Option (List ℕ) → Bool → RemuxError → Type 0
IsNoFault known can_refuse e = IfSome known (λ xs. (o : OpenedFile) → IsFile (length xs) (here xs 0) o → (c : Cause)
    → IsCause can_refuse c e)

-- Where the bytes are known and are a file that has no track for one of these ids, it is refused for the first such.
abbrev pub SaysMissing : {X : Type 0} → Option (List ℕ) → Bool → List ℕ → Result X RemuxError → Type 0
SaysMissing known can_refuse ids result = IfSome known (λ xs. (o : OpenedFile) (id i : ℕ)
    → IsFile (length xs) (here xs 0) o → IsMissing o ids id i → GivesCause can_refuse (trak_not_found id) result)
