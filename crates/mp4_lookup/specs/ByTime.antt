-- The samples of a track by the time at which they are decoded (ISO/IEC 14496-12, 8.6.1.2 and 8.8.12), and the sync
-- samples among them (8.6.2 and 8.8.3.1).
use Rattle.std.specs.Prelude.{ℕ, ◌+◌, ◌-◌, ◌^◌, Bool, List, length, get_or, slice_get, min, nat_lt, nat_le}
use Rattle.std.specs.Prelude.{Option, Some, None, max, ◌==◌, ◌&&◌, ◌||◌, if◌then◌else◌}
use Rattle.std.specs.List.{list_any}
use Rattle.std.specs.Option.{option_and_then}
use Rattle.mp4_table.specs.declared.stss.StssBox.{StssBox}
use Rattle.mp4_table.specs.Runs.{durations}
use Rattle.mp4_table.specs.Starts.{start_of}
use Rattle.mp4_boxes.specs.declared.stbl.StblBox.{StblBox}
use Rattle.mp4_boxes.specs.Stbl.{sample_count}
use Rattle.mp4_fragments.specs.ByTime.{decoded_by, run_sample_time}
use Rattle.mp4_fragments.specs.RunSamples.{PlacedRun, all_run_samples}
use Rattle.mp4_fragments.specs.Sync.{sync_at}
use Rattle.mp4_fragments.specs.declared.run_samples.RunSample.{RunSample}
use Rattle.mp4_samples.specs.Tables.{is_sync_at}
use Rattle.mp4_lookup.specs.declared.by_time.TimeRange.{TimeRange}

-- when sample k of these durations is decoded; none is known of number 0, nor past them
unfoldable pub time_in : List ℕ → ℕ → Option ℕ
time_in durations k = if nat_lt 0 k && nat_le k (length durations) then Some (start_of durations k) else None

-- When sample k of a track is decoded, in ticks of its timescale: the samples of the movie box come first, as many as
-- stsz says, then those of these runs.
unfoldable pub decode_time : StblBox → List PlacedRun → ℕ → Option ℕ
decode_time t runs k =
    if nat_le k (sample_count t) then time_in (durations t.stts.entries) k else
    run_sample_time runs (k - sample_count t - 1)

-- Sample k is decoded at or before a time. Times need not rise from one fragment to the next: the last such sample is
-- the one after which none is decoded so early.
abbrev pub sample_by : StblBox → List PlacedRun → ℕ → ℕ → Bool
sample_by t runs time k = decoded_by time (decode_time t runs k)

-- a number that samples have is one of these numbers
unfoldable pub is_number_of : List ℕ → ℕ → Bool
is_number_of numbers k = nat_lt 0 k && list_any (λ n. n == k) numbers

-- the larger of two numbers, of which the other counts if it is not 0 and at most k
abbrev pub larger_upto : ℕ → Option ℕ → ℕ → Option ℕ
larger_upto k one other = if other == 0 || nat_lt k other then one else Some (larger one other)
  where
    larger : Option ℕ → ℕ → ℕ
    larger None other = other
    larger (Some one) other = max one other

-- number k of a table is a sync sample
unfoldable pub is_sync_in_table : Option StssBox → ℕ → Bool
is_sync_in_table stss k = nat_lt 0 k && is_sync_at stss k

-- sample k of a track is a sync sample
unfoldable pub is_sync_sample : StblBox → List PlacedRun → ℕ → Bool
is_sync_sample t runs k =
    if nat_le k (sample_count t) then is_sync_in_table t.stss k else sync_at runs (k - sample_count t - 1)

-- how many samples a track has that 32 bits number
abbrev pub last_number : StblBox → List PlacedRun → ℕ
last_number t runs = min (sample_count t + length (all_run_samples runs)) (2 ^ 32 - 1)

-- how long a sample of a fragment lasts
abbrev pub run_sample_duration : Option RunSample → ℕ
run_sample_duration None = 0
run_sample_duration (Some m) = m.duration

-- how long sample k of a track lasts
unfoldable pub duration_of : StblBox → List PlacedRun → ℕ → ℕ
duration_of t runs k =
    if nat_le k (sample_count t) then get_or (durations t.stts.entries) (k - 1) 0 else
    run_sample_duration (slice_get (all_run_samples runs) (k - sample_count t - 1))

-- when sample k of a track has lasted: none is known past 64 bits
unfoldable pub end_time : StblBox → List PlacedRun → ℕ → Option ℕ
end_time t runs k = option_and_then (λ begin. within (begin + duration_of t runs k)) (decode_time t runs k)
  where
    within : ℕ → Option ℕ
    within time = if nat_lt time (2 ^ 64) then Some time else None

-- a time range, if both of its ends are known
abbrev pub range_of : Option ℕ → Option ℕ → Option TimeRange
range_of (Some start) (Some end) = Some (record { start = start; end = end })
range_of (Some start) None = None
range_of None end = None

-- from when the first sample of a track is decoded until its last has lasted
unfoldable pub time_range : StblBox → List PlacedRun → Option TimeRange
time_range t runs = range_of (decode_time t runs 1) (end_time t runs (last_number t runs))
