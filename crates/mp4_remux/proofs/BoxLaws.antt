-- Why the box of a table isn't written.
use Rattle.std.proofs.Common.{◌≡◌, inl, inr, ◌-◌, ◌^◌, ◌<◌, ℕ, nat_lt, Bool, true, false, if◌then◌else◌}
use Rattle.std.proofs.Common.{List, length, Option, Some, None, Ok, Err, refl, arith}
use Rattle.std.proofs.lemmas.Bool.{ltb-false, ltb-true}
use Rattle.mp4_codec.specs.Boxes.{box_bytes, size_around, write_cause}
use Rattle.mp4_codec.specs.Cause.{AnswersCause, Cause, cause_of, too_large, ◌or◌}
use Rattle.mp4_codec.specs.FramingLaws.{length-box_bytes}
use Rattle.mp4_codec.specs.declared.box_type.BoxType.{BoxType}
use Rattle.mp4_codec.specs.declared.box_type.BoxType.TheVariants.{StcoBox, Co64Box}
use Rattle.mp4_codec.specs.declared.error.Error.{Error}
use Rattle.mp4_codec.specs.declared.error.Error.TheVariants.{TooLarge}
use Rattle.mp4_codec.specs.declared.error.Limit.TheVariants.{BoxSize}
use Rattle.mp4_table.specs.Co64.{co64_payload}
use Rattle.mp4_table.specs.Stco.{stco_payload}
use Rattle.mp4_mux.specs.SampleTables.{are_far}
use Rattle.mp4_remux.specs.ChunkTable.{offsets_box}
use Rattle.mp4_remux.specs.TrackTables.{HasNoRoom}

-- an error of this cause
is_too_large : (e : Error) → too_large BoxSize ≡ cause_of e → e ≡ TooLarge BoxSize
is_too_large (TooLarge l) is = cc
is_too_large e is = absurd cc

pub no_room : (name : BoxType) (payload : List ℕ) (refusal : Option Cause) (e : Error) → refusal ≡ None
    → AnswersCause {X = ℕ} (write_cause payload refusal) (Err e) → HasNoRoom (box_bytes name payload) e
no_room name payload refusal e none = by (nat_lt (2 ^ 32 - 1) (size_around payload)) refl
  where
    by : (b : Bool) → nat_lt (2 ^ 32 - 1) (size_around payload) ≡ b
        → AnswersCause {X = ℕ} ((if b then Some (too_large BoxSize) else None) or refusal) (Err e)
        → HasNoRoom (box_bytes name payload) e
    by true past why =
        inr (
          is_too_large e why,
          omega (arith, ltb-true (2 ^ 32 - 1) (size_around payload) past, length-box_bytes name payload),
        )
    by false within why = inl (rw none at why)

-- what is written has room
pub has_room : (name : BoxType) (payload : List ℕ) (refusal : Option Cause) (n : ℕ)
    → AnswersCause {X = ℕ} (write_cause payload refusal) (Ok n) → length (box_bytes name payload) < 2 ^ 32
has_room name payload refusal n = by (nat_lt (2 ^ 32 - 1) (size_around payload)) refl
  where
    by : (b : Bool) → nat_lt (2 ^ 32 - 1) (size_around payload) ≡ b
        → AnswersCause {X = ℕ} ((if b then Some (too_large BoxSize) else None) or refusal) (Ok n)
        → length (box_bytes name payload) < 2 ^ 32
    by true past no' = absurd no'
    by false within is =
        omega (arith, ltb-false (2 ^ 32 - 1) (size_around payload) within, length-box_bytes name payload)

-- TABLES OF CHUNK OFFSETS

-- where an offset passes 32 bits
pub far_box : (offsets entries : List ℕ) → are_far offsets ≡ true → entries ≡ offsets
    → box_bytes Co64Box (co64_payload (record { version = 0; flags = 0; entries = entries })) ≡ offsets_box offsets
unfolding offsets_box
far_box offsets entries far is = rw (is, far) refl

-- where none does
pub near_box : (offsets entries : List ℕ) → are_far offsets ≡ false → entries ≡ offsets
    → box_bytes StcoBox (stco_payload (record { version = 0; flags = 0; entries = entries })) ≡ offsets_box offsets
unfolding offsets_box
near_box offsets entries near is = rw (is, near) refl
