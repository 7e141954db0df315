-- What a refusal says of the file, where it is for an error of the file or says that the tracks would be others.
use Rattle.std.specs.Prelude.{◌≡◌}
use Rattle.mp4_codec.specs.declared.error.Error.{Error}
use Rattle.mp4_codec.specs.declared.error.Error.TheVariants.{OutOfMemory}
use Rattle.mp4_remux.specs.Refused.{SaysWhy}
use Rattle.mp4_remux.specs.declared.error.RemuxError.{RemuxError}

-- an error of the file is one of these, tracks would be others only where this is so, and no sample differs
abbrev pub CausedBy : (Error → Type 0) → Type 0 → RemuxError → Type 0
CausedBy IsError AreOthers e = SaysWhy IsError AreOthers (λ id k. ⊥) e

-- it is for none of these, or for memory alone
abbrev pub CausedByNone : RemuxError → Type 0
CausedByNone e = CausedBy (λ error. ⊥) ⊥ e

abbrev pub CausedByMemory : RemuxError → Type 0
CausedByMemory e = CausedBy (λ error. error ≡ OutOfMemory) ⊥ e
