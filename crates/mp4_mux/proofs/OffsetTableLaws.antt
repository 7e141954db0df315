-- One of both tables of offsets is there, and has the offsets of the chunks.
use Rattle.std.proofs.Common.{◌≡◌, ℕ, true, false, cond, List, Some, None, is_some, is_none, refl}
use Rattle.mp4_table.specs.declared.stco.StcoBox.{StcoBox}
use Rattle.mp4_table.specs.declared.co64.Co64Box.{Co64Box}
use Rattle.mp4_samples.specs.Tables.{offsets_of}
use Rattle.mp4_mux.specs.SampleTables.{are_far, stco_for, co64_for}

pub offsets_of-stco_for-co64_for : (os : List ℕ) → offsets_of (stco_for os) (co64_for os) ≡ os
unfolding stco_for co64_for
offsets_of-stco_for-co64_for os =
    let near : StcoBox = record { version = 0; flags = 0; entries = os } in
    let far : Co64Box = record { version = 0; flags = 0; entries = os } in
    (elim (are_far os) as (λ b. offsets_of (cond b None (Some near)) (cond b (Some far) None) ≡ os) [
      | true ↦ refl
      | false ↦ refl
    ])

-- the one is there where the other isn't
pub one_is_there : (os : List ℕ) → is_some (stco_for os) ≡ is_none (co64_for os)
unfolding stco_for co64_for
one_is_there os =
    let near : StcoBox = record { version = 0; flags = 0; entries = os } in
    let far : Co64Box = record { version = 0; flags = 0; entries = os } in
    (elim (are_far os) as (λ b. is_some (cond b None (Some near)) ≡ is_none (cond b (Some far) None)) [
      | true ↦ refl
      | false ↦ refl
    ])
