-- What is kept of the runs of a track so that its samples are found by their times, and the sync samples among them.
use Rattle.std.specs.Prelude.{ℕ, ◌≤◌, List, length}
use Rattle.mp4_fragments.specs.ByTime.{AreEarliest, begin_of}
use Rattle.mp4_fragments.specs.RunSamples.{PlacedRun, all_run_samples}
use Rattle.mp4_fragments.specs.Sync.{AreSpans, sync_at}
use Rattle.mp4_fragments.specs.declared.seek.SeekIndex.{SeekIndex}

-- of these runs, as far as their samples have numbers below an end
pub record IsSeekIndex (runs : List PlacedRun) (end : ℕ) (s : SeekIndex) : Type 0 where
  pub times : AreEarliest (begin_of runs end) 0 s.times.latest_first.items
  pub few : length s.sync.firsts.items ≤ length (all_run_samples runs)
  pub sync : AreSpans (sync_at runs) end s.sync.firsts.items s.sync.lasts.items
