-- What is replied of a movie that is rewritten.
use Rattle.std.specs.Prelude.{◌⊎◌, ℕ, List, length, Some, false}
use Rattle.mp4_codec.specs.Cause.{Cause, trak_not_found}
use Rattle.mp4_codec.specs.Cursor.{here}
use Rattle.mp4_media.specs.FileBoxes.{OpenedFile}
use Rattle.mp4_media.specs.FileGrammar.{IsFaultyFile, IsFile}
use Rattle.mp4_remux.specs.declared.error.RemuxError.{RemuxError}
use Rattle.mp4_remux.specs.declared.reference.Reference.{Reference}
use Rattle.mp4_remux.specs.Errors.{IsCause, IsNamed, IsRefusalOf}
use Rattle.mp4_remux.specs.Front.{HasToMove}
use Rattle.mp4_remux.specs.Gathered.{HasMoreThanTables, IsChosen}
use Rattle.mp4_remux.specs.Named.{NamesBox}
use Rattle.mp4_remux.specs.PlannedFront.{IsWhyNotInFront}
use Rattle.mp4_remux.specs.PlannedRebuilt.{IsWhyNotChosen, IsWhyNotRebuilt}
use Rattle.mp4_remux.specs.Reads.{IsMissing}
use Rattle.mp4_remux.specs.Remuxed.{ids_of}
use Rattle.mp4_c.specs.declared.answer.Answer.{Answer}
use Rattle.mp4_c.specs.Answers.{not_remuxed}
use Rattle.mp4_c.specs.Replies.{Gave}
use Rattle.mp4_c.specs.Rooms.{copied, with_front}
use Rattle.mp4_c.specs.WrittenReply.{GaveBytes}

-- a call has copied these bytes to the front of the room, where they fit
abbrev pub GaveMade : List ℕ → List ℕ → List ℕ → Answer → Type 0
GaveMade made old new answer = Gave (record { answer = copied made old; room = with_front made old }) new answer

-- a call was refused so, and has left the room as it was
abbrev pub GaveRefusal : RemuxError → List ℕ → List ℕ → Answer → Type 0
GaveRefusal e old new answer = Gave (record { answer = not_remuxed e; room = old }) new answer

-- Why a file in memory isn't rewritten: neither a source nor a sink refuses; where the file has a fault, it is refused
-- for the first one, or memory ran out; what the refusal says of the file is so; and something more is so.
pub record IsNotRewritten (file : List ℕ) (IsMore : RemuxError → Type 0) (e : RemuxError) : Type 0 where
  pub refused : IsRefusalOf ⊥ ⊥ e
  pub fault : (c : Cause) → IsFaultyFile (length file) (here file 0) c → IsCause false c e
  pub names : NamesBox (Some file) e
  pub more : IsMore e

-- where the file opens, this is so of what it opens to
abbrev pub WhereOpened : List ℕ → (OpenedFile → Type 0) → Type 0
WhereOpened file IsSo = (opened : OpenedFile) → IsFile (length file) (here file 0) opened → IsSo opened

-- a file whose movie box isn't moved to the front: but for memory, only one whose movie box has to be moved; and one
-- that opens has what is said wrong, or the file that would be written has
abbrev pub IsNotMoved : List ℕ → RemuxError → Type 0
IsNotMoved file =
    IsNotRewritten file (λ e. (IsNamed e → HasToMove (Some file)) × WhereOpened file (λ o. IsWhyNotInFront file o e))

-- one whose fragments aren't gathered: but for memory, only one with samples that no table has, or of which more may
-- follow; and one that opens has what is said wrong, or the file that would be written has
abbrev pub IsNotGathered : List ℕ → RemuxError → Type 0
IsNotGathered file =
    IsNotRewritten file (λ e. (IsNamed e → HasMoreThanTables (Some file))
    × WhereOpened file (λ o. IsWhyNotRebuilt file o (ids_of o.moov) e))

-- one whose tracks with these ids aren't chosen: where one isn't there, it is refused for the first such, or memory ran
-- out; and one that opens has what is said wrong, or the file that would be written has
abbrev pub IsNotChosen : List ℕ → List ℕ → RemuxError → Type 0
IsNotChosen file ids =
    IsNotRewritten file (λ e. ((opened : OpenedFile) (id i : ℕ) → IsFile (length file) (here file 0) opened
    → IsMissing opened ids id i → IsCause false (trak_not_found id) e)
    × WhereOpened file (λ o. IsWhyNotChosen file o ids e))

-- A call has copied such bytes to the front of the room, where they fit; or it was refused for such a reason, and has
-- left the room as it was.
abbrev pub GaveRemuxed : (List ℕ → Type 0) → (RemuxError → Type 0) → List ℕ → List ℕ → Answer → Type 0
GaveRemuxed IsMovie IsReason old new answer =
    (GaveBytes IsMovie old new answer) ⊎ ((e : RemuxError) × (IsReason e) × (GaveRefusal e old new answer))

-- The one file is the other with these of its tracks, whatever references are left out with the others.
abbrev pub HasChosen : List ℕ → List ℕ → List ℕ → Type 0
HasChosen before after ids = (left_out : List Reference) × IsChosen before after ids left_out
