-- The samples of a track's runs by the time at which they are decoded (ISO/IEC 14496-12, 8.8.8 and 8.8.12).
use Rattle.std.specs.Prelude.{◌≡◌, ℕ, ◌+◌, ◌-◌, ◌<◌, ◌≤◌, Bool, false, nat_lt, nat_le, min, List, length, take}
use Rattle.std.specs.Prelude.{slice_get, slice_index, Option, Some, None, MatchOption, if◌then◌else◌}
use Rattle.std.specs.List.{sum_by}
use Rattle.std.specs.Option.{option_and_then}
use Rattle.mp4_search.specs.Digits.{digits}
use Rattle.mp4_search.specs.Partition.{ArePartedAt, asked_in}
use Rattle.mp4_fragments.specs.RunSamples.{PlacedRun, all_run_samples, at_run_sample, run_count}

-- whether something is decoded at or before a time; what has no time is not
abbrev pub decoded_by : ℕ → Option ℕ → Bool
decoded_by time None = false
decoded_by time (Some t) = nat_le t time

-- when the sample with a number is decoded, which counts from 0 over all runs
unfoldable pub run_sample_time : List PlacedRun → ℕ → Option ℕ
run_sample_time runs n = option_and_then (λ m. m.at.time) (slice_get (all_run_samples runs) n)

-- Whether the sample with a number is decoded at or before a time. Times need not rise from one fragment to the next:
-- the last such sample is the one after which nothing is decoded so early.
abbrev pub run_sample_by : List PlacedRun → ℕ → ℕ → Bool
run_sample_by runs time n = decoded_by time (run_sample_time runs n)

-- when the first sample of a run is decoded, if it has one
abbrev pub first_decoded : PlacedRun → Option ℕ
first_decoded p = if nat_lt 0 (run_count p) then p.at.time else None

-- the same of run i of these, if that sample's number is below an end
unfoldable pub begin_of : List PlacedRun → ℕ → ℕ → Option ℕ
begin_of runs end i =
    if nat_lt (sum_by run_count (take i runs)) end then option_and_then first_decoded (slice_get runs i) else None

-- For each run from one on, when the earliest of it and of those after it begins: the last run comes first. They rise
-- with the runs, whatever the order in which these begin. Runs after the last that begins at a known time have none.
pub record AreEarliest (begins : ℕ → Option ℕ) (from : ℕ) (times : List ℕ) : Type 0 where
  pub past : (r : ℕ) → from + length times ≤ r → begins r ≡ None
  pub least : (q r t : ℕ) → q < length times → from + length times - 1 - q ≤ r → begins r ≡ Some t
      → slice_index times q ≤ t
  pub own : (q : ℕ) → q < length times → ((0 < q) × (slice_index times q ≡ slice_index times (q - 1)) → ⊥)
      → begins (from + length times - 1 - q) ≡ Some (slice_index times q)
  pub fall : (p q : ℕ) → p ≤ q → q < length times → slice_index times q ≤ slice_index times p

-- the earliest of run i and of those after it begins at or before a time, by the times that are kept of runs
abbrev pub runs_by : List ℕ → ℕ → ℕ → Bool
runs_by times time i = nat_le (slice_index times (length times - 1 - i)) time

-- sample j of a run is decoded at or before a time
abbrev pub in_run_by : PlacedRun → ℕ → ℕ → Bool
in_run_by p time j = decoded_by time (at_run_sample p.run p.defaults p.at j).time

-- So many times are compared for the last sample that is decoded at or before a time, of those whose numbers are below
-- an end: those of a search by halves among the times that are kept of runs; and where a run begins so early, those of
-- one among the samples of the last such run, and one reading more, of how many samples come before it.
pub record IsCountByTime (runs : List PlacedRun) (times : List ℕ) (end time n : ℕ) : Type 0 where
  pub none : ArePartedAt (runs_by times time) (length times) 0 → n ≡ asked_in (runs_by times time) (length times)
  pub some : (r : ℕ) (p : PlacedRun) → ArePartedAt (runs_by times time) (length times) (r + 1)
      → slice_get runs r ≡ Some p → n ≡ asked_in (runs_by times time) (length times) + 1
      + asked_in (in_run_by p time) (min (end - sum_by run_count (take r runs)) (run_count p))
  pub few : n ≤ digits (length runs) + 33

-- the earlier of two times, of which either may be unknown
abbrev pub earlier : Option ℕ → Option ℕ → Option ℕ
earlier None time = time
earlier (Some t) None = Some t
earlier (Some t) (Some u) = Some (min t u)

-- what is kept of these runs, and the time that is kept last
pub record AreKept (begins : ℕ → Option ℕ) (from : ℕ) (times : List ℕ) (earliest : Option ℕ) : Type 0 where
  pub kept : AreEarliest begins from times
  pub last : MatchOption earliest (length times ≡ 0)
      (λ t. (0 < length times) × (t ≡ slice_index times (length times - 1)))
