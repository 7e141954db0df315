-- What is kept of one run of a track.
use Rattle.std.specs.Prelude.{ℕ, Bool, true, false, List, [], Option, Some, None}
use Rattle.mp4_fragments.specs.declared.entry.Known.{Known}
use Rattle.mp4_fragments.specs.declared.entry.Kept.{Kept}
use Rattle.mp4_fragments.specs.declared.entry.Kept.TheVariants.{Nothing, Only, Checkpoints}
use Rattle.mp4_fragments.specs.declared.run_samples.RunStart.{RunStart}
use Rattle.mp4_fragments.specs.declared.run_samples.SampleValues.{SampleValues}

-- where and when its first sample begins, where every 64th sample begins, from the 64th on, what its sample has, if
-- it has one alone, and the numbers of its fragment and of itself, which count from 0
pub record Entry : Type 0 where
  pub at : RunStart
  pub checks : List RunStart
  pub only : Option SampleValues
  pub traf : ℕ
  pub run : ℕ

-- a number, if it is known
abbrev pub if_known : Bool → ℕ → Option ℕ
if_known true n = Some n
if_known false n = None

-- which numbers are known
abbrev pub known_in : Kept → Known
known_in (Nothing known) = known
known_in (Only known is_sync size duration rendering_offset) = known
known_in (Checkpoints known checks) = known

-- where and when the first sample begins, by the numbers of an entry
abbrev pub begin_in : Kept → ℕ → ℕ → RunStart
begin_in kept place time =
    record { place = if_known (known_in kept).place place; time = if_known (known_in kept).time time }

-- the checkpoints that are kept
abbrev pub checks_in : Kept → List RunStart
checks_in (Nothing known) = []
checks_in (Only known is_sync size duration rendering_offset) = []
checks_in (Checkpoints known checks) = checks.value

-- the values that are kept of a sample
abbrev pub only_in : Kept → Option SampleValues
only_in (Nothing known) = None
only_in (Only known is_sync size duration rendering_offset) =
    Some (record { size = size; duration = duration; rendering_offset = rendering_offset; is_sync = is_sync })
only_in (Checkpoints known checks) = None
