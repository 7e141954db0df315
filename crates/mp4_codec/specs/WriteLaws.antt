-- What a call that writes a box did, and why it was refused.
use Rattle.std.proofs.Common.{◌≡◌, ℕ, ◌+◌, ◌-◌, ◌^◌, ◌≤◌, ◌<◌, Bool, true, false, cond, ltb, List}
use Rattle.std.proofs.Common.{length, Option, Some, None, refl, arith}
use Rattle.std.proofs.lemmas.Bool.{le-ltb, lt-ltb, ltb-false}
use Rattle.mp4_codec.specs.declared.error.Limit.TheVariants.{BoxSize}
use Rattle.mp4_codec.specs.Cause.{Cause, too_large, ◌or◌}
use Rattle.mp4_codec.specs.Boxes.{size_around, size_cause, write_cause}

-- a box that passes 32 bits is refused for its size
pub size_cause-large : (payload : List ℕ) (size : ℕ) → size ≡ size_around payload → 2 ^ 32 - 1 < size
    → size_cause payload ≡ Some (too_large BoxSize)
size_cause-large payload size e large =
    let past : 2 ^ 32 - 1 < size_around payload = omega arith in
    rw (lt-ltb _ _ past) refl

-- and any other is not
pub size_cause-none : (payload : List ℕ) (size : ℕ) → size ≡ size_around payload → size ≤ 2 ^ 32 - 1
    → size_cause payload ≡ None
size_cause-none payload size e small =
    let fits : size_around payload ≤ 2 ^ 32 - 1 = omega arith in
    rw (le-ltb _ _ fits) refl

pub write_cause-large : (payload : List ℕ) (refusal : Option Cause) (size : ℕ) → size ≡ size_around payload
    → 2 ^ 32 - 1 < size
    → write_cause payload refusal ≡ Some (too_large BoxSize)
write_cause-large payload refusal size e large = rw (size_cause-large payload size e large) refl

-- where the size is none, what refuses the value is the cause
pub write_cause-small : (payload : List ℕ) (refusal : Option Cause) (size : ℕ) → size ≡ size_around payload
    → size ≤ 2 ^ 32 - 1
    → write_cause payload refusal ≡ refusal
write_cause-small payload refusal size e small = rw (size_cause-none payload size e small) refl

-- a box that is written fits 32 bits, and nothing refuses its value
pub record IsWritten (payload : List ℕ) (refusal : Option Cause) : Type 0 where
  pub small : 8 + length payload < 2 ^ 32
  pub sound : refusal ≡ None

pub is_written : (payload : List ℕ) (refusal : Option Cause) → write_cause payload refusal ≡ None
    → IsWritten payload refusal
is_written payload refusal e =
    chosen (ltb (2 ^ 32 - 1) (size_around payload)) (ltb-false (2 ^ 32 - 1) (size_around payload)) e
  where
    chosen : (b : Bool) → (b ≡ false → size_around payload ≤ 2 ^ 32 - 1)
        → (cond b (Some (too_large BoxSize)) None or refusal) ≡ None
        → IsWritten payload refusal
    chosen true h e = absurd cc
    chosen false h e = record { small = let fits = h refl in omega arith; sound = e }

-- a box that fits 32 bits and whose value nothing refuses is written
pub write_cause-none : (payload : List ℕ) (refusal : Option Cause) → 8 + length payload < 2 ^ 32 → refusal ≡ None
    → write_cause payload refusal ≡ None
write_cause-none payload refusal small sound =
    let fits : size_around payload ≤ 2 ^ 32 - 1 = omega arith in
    rw (le-ltb _ _ fits) sound

-- of two refusals where there is none, neither is
pub or_parts : (first second : Option Cause) → (first or second) ≡ None → (first ≡ None) × (second ≡ None)
or_parts None second e = (refl, e)
or_parts (Some c) second e = absurd cc
