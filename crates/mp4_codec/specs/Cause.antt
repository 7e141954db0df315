-- Why a call is refused, without the text of a refusal, and what it means that a call answers so.
use Rattle.std.specs.Prelude.{◌≡◌, ◌⊎◌, ℕ, Option, Some, None, Result, Ok, Err}
use Rattle.mp4_codec.specs.declared.box_type.BoxType.{BoxType}
use Rattle.mp4_codec.specs.declared.error.Limit.{Limit}
use Rattle.mp4_codec.specs.declared.error.Error.{Error}
use Rattle.mp4_codec.specs.declared.error.Malformed.{Malformed}
use Rattle.mp4_codec.specs.declared.error.Error.TheVariants.{EndOfData, OutOfMemory, InvalidData, BoxNotFound}
use Rattle.mp4_codec.specs.declared.error.Error.TheVariants.{Box2NotFound, TrakNotFound, BoxInTrakNotFound}
use Rattle.mp4_codec.specs.declared.error.Error.TheVariants.{BoxInTrafNotFound, BoxInStblNotFound}
use Rattle.mp4_codec.specs.declared.error.Error.TheVariants.{EntryInStblNotFound, EntryInTrunNotFound}
use Rattle.mp4_codec.specs.declared.error.Error.TheVariants.{UnsupportedBoxVersion, Ended, ZeroTimescale, TooLarge}
use Rattle.mp4_codec.specs.declared.error.Error.TheVariants.{Unrepresentable}

-- an error without its text
pub data Cause : Type 0 where
  end_of_data : Cause
  out_of_memory : Cause
  invalid_data : Cause
  box_not_found : BoxType → Cause
  box2_not_found : BoxType → BoxType → Cause
  trak_not_found : ℕ → Cause
  box_in_trak_not_found : ℕ → BoxType → Cause
  box_in_traf_not_found : ℕ → BoxType → Cause
  box_in_stbl_not_found : ℕ → BoxType → Cause
  entry_in_stbl_not_found : ℕ → BoxType → ℕ → Cause
  entry_in_trun_not_found : ℕ → BoxType → ℕ → Cause
  unsupported_version : BoxType → ℕ → Cause
  ended : Cause
  zero_timescale : Cause
  too_large : Limit → Cause
  unrepresentable : Cause

abbrev pub cause_of : Error → Cause
cause_of EndOfData = end_of_data
cause_of OutOfMemory = out_of_memory
cause_of (InvalidData text) = invalid_data
cause_of (BoxNotFound t) = box_not_found t
cause_of (Box2NotFound t u) = box2_not_found t u
cause_of (TrakNotFound id) = trak_not_found id
cause_of (BoxInTrakNotFound id t) = box_in_trak_not_found id t
cause_of (BoxInTrafNotFound id t) = box_in_traf_not_found id t
cause_of (BoxInStblNotFound id t) = box_in_stbl_not_found id t
cause_of (EntryInStblNotFound id t k) = entry_in_stbl_not_found id t k
cause_of (EntryInTrunNotFound id t k) = entry_in_trun_not_found id t k
cause_of (UnsupportedBoxVersion t v) = unsupported_version t v
cause_of Ended = ended
cause_of ZeroTimescale = zero_timescale
cause_of (TooLarge l) = too_large l
cause_of (Unrepresentable text) = unrepresentable

-- What a call returned, seen by view, is just this answer.
abbrev pub Gives : {X Y : Type 0} → (X → Y) → Result X Error → Result Y Cause → Type 0
Gives view (Ok x) answer = answer ≡ Ok (view x)
Gives view (Err e) answer = answer ≡ Err (cause_of e)

-- What a call returned, seen by view, is this answer, or memory ran out.
abbrev pub Answers : {X Y : Type 0} → (X → Y) → Result X Error → Result Y Cause → Type 0
Answers view (Ok x) answer = answer ≡ Ok (view x)
Answers view (Err e) answer = (e ≡ OutOfMemory) ⊎ (answer ≡ Err (cause_of e))

-- What a call that reads a field returned, seen by view, is just this answer.
abbrev pub Reads : {X Y : Type 0} → (X → Y) → Result X Malformed → Result Y Cause → Type 0
Reads view (Ok x) answer = answer ≡ Ok (view x)
Reads view (Err malformed) answer = answer ≡ Err invalid_data

-- What a call of a writer returned: where a cause holds it is just that cause; where none holds it is Ok, or memory
-- ran out.
abbrev pub AnswersCause : {X : Type 0} → Option Cause → Result X Error → Type 0
AnswersCause None (Ok x) = Unit {0}
AnswersCause None (Err e) = e ≡ OutOfMemory
AnswersCause (Some c) (Ok x) = ⊥
AnswersCause (Some c) (Err e) = c ≡ cause_of e

-- a step, and where it is not refused, the next
infixl 10 ◌>>=◌
abbrev pub ◌>>=◌ : {A B : Type 0} → Result A Cause → (A → Result B Cause) → Result B Cause
(Ok x) >>= f = f x
(Err c) >>= f = Err c

-- an answer, seen in another way
abbrev pub seen : {A B : Type 0} → (A → B) → Result A Cause → Result B Cause
seen view answer = answer >>= λ x. Ok (view x)

-- the first of two refusals
infixl 10 ◌or◌
abbrev pub ◌or◌ : Option Cause → Option Cause → Option Cause
(Some c) or later = Some c
None or later = later

-- the answer, unless there is a refusal
abbrev pub unless : {A : Type 0} → Option Cause → Result A Cause → Result A Cause
unless None answer = answer
unless (Some c) answer = Err c

-- why an answer is a refusal, if it is one
abbrev pub fault_of : {A : Type 0} → Result A Cause → Option Cause
fault_of (Ok x) = None
fault_of (Err c) = Some c

-- a check answers the refusal, and Ok where there is none
abbrev pub Checks : {X : Type 0} → Result X Error → Option Cause → Type 0
Checks (Ok x) refusal = refusal ≡ None
Checks (Err e) refusal = refusal ≡ Some (cause_of e)
