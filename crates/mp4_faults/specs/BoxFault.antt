-- The first fault of a box (ISO/IEC 14496-12, 4.2).
use Rattle.std.specs.Prelude.{◌≡◌, ℕ, List, Option, Some, None, Result, Ok, Err}
use Rattle.mp4_codec.specs.declared.box_type.BoxType.{BoxType}
use Rattle.mp4_codec.specs.declared.error.Error.{Error}
use Rattle.mp4_codec.specs.declared.error.Error.TheVariants.{OutOfMemory}
use Rattle.mp4_codec.specs.Cause.{cause_of}
use Rattle.mp4_faults.specs.declared.fault_place.FaultPlace.{FaultPlace}
use Rattle.mp4_faults.specs.Inner.{InnerBox}
use Rattle.mp4_faults.specs.Innermost.{IsInnermost}
use Rattle.mp4_faults.specs.Refusal.{payload_fault}

-- a box of this type and payload, where places are counted from its payload's first byte
abbrev pub alone : BoxType → List ℕ → InnerBox
alone name payload = record { name = name; place = 0; from = 0; payload = payload }

-- The payload is refused as that of a box of this type, for this fault's cause; the path leads to the innermost box
-- that is at fault, and that is where the fault is.
pub record IsFaultOfBox (name : BoxType) (payload : List ℕ) (f : FaultPlace) : Type 0 where
  pub refused : payload_fault name payload ≡ Some (cause_of f.error)
  pub innermost : InnerBox
  pub leads : IsInnermost (cause_of f.error) (alone name payload) f.path innermost
  pub place : f.place ≡ innermost.place

-- What a call says of a payload: it isn't refused, or this is its first fault; or memory ran out.
abbrev pub SaysFaultOfBox : BoxType → List ℕ → Result (Option FaultPlace) Error → Type 0
SaysFaultOfBox name payload (Ok None) = payload_fault name payload ≡ None
SaysFaultOfBox name payload (Ok (Some f)) = IsFaultOfBox name payload f
SaysFaultOfBox name payload (Err e) = e ≡ OutOfMemory
