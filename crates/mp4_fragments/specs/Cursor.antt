-- Where a walk over the samples of a track's runs is.
use Rattle.std.specs.Prelude.{◌≡◌, ◌+◌, ◌<◌, ◌≤◌, List, length, take, Some, slice_get}
use Rattle.std.specs.List.{sum_by}
use Rattle.mp4_fragments.specs.RunSamples.{PlacedRun, at_run_sample, run_count}
use Rattle.mp4_fragments.specs.declared.cursor.RunCursor.{RunCursor}
use Rattle.mp4_fragments.specs.declared.cursor.RunEnd.{RunEnd}
use Rattle.mp4_fragments.specs.declared.cursor.RunPosition.{RunPosition}
use Rattle.mp4_fragments.specs.declared.cursor.RunPosition.TheVariants.{InRun, AfterRun}

-- the cursor is in this run, and its next sample begins there
pub record IsIn (p : PlacedRun) (c : RunCursor) : Type 0 where
  pub run : p.run ≡ c.run.now
  pub defaults : p.defaults ≡ c.defaults
  pub begins : c.at ≡ at_run_sample p.run p.defaults p.at c.passed

-- the cursor is in one of these runs: before the sample with that number over all of them, or after the run's last
pub record IsInRuns (runs : List PlacedRun) (c : RunCursor) : Type 0 where
  pub within : c.entry < length runs
  pub inside : c.passed ≤ c.run.now.sample_count
  pub counted : c.number ≡ sum_by run_count (take c.entry runs) + c.passed
  pub run : (p : PlacedRun) → slice_get runs c.entry ≡ Some p → IsIn p c

-- after all samples of the run of an entry: the next sample, if there is one, has that number over all runs
pub record IsRunEnd (runs : List PlacedRun) (e : RunEnd) : Type 0 where
  pub within : e.entry < length runs
  pub counted : e.number ≡ sum_by run_count (take (e.entry + 1) runs)

-- a walk over the samples of these runs is there
abbrev pub IsAmongRuns : List PlacedRun → RunPosition → Type 0
IsAmongRuns runs (InRun c) = IsInRuns runs c
IsAmongRuns runs (AfterRun e) = IsRunEnd runs e
