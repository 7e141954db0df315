-- The samples of a run: the samples that it adds to a track (ISO/IEC 14496-12, 8.8.7 and 8.8.8).
use Rattle.std.specs.Prelude.{ℕ, Bool, zero, suc, ◌==◌, List, map, get_or}
use Rattle.std.specs.List.{range_with_len, flat_map}
use Rattle.std.specs.Option.{unwrap_or}
use Rattle.std.specs.Int.{cast_signed, w32}
use Rattle.std.specs.Int.Bits.{bit_and}
use Rattle.mp4_moof.specs.declared.trun.TrunBox.{TrunBox}
use Rattle.mp4_fragments.specs.Numbers.{plus, sum_of_first}
use Rattle.mp4_fragments.specs.declared.run_samples.RunStart.{RunStart}
use Rattle.mp4_fragments.specs.declared.run_samples.RunSample.{RunSample}
use Rattle.mp4_fragments.specs.declared.run_samples.SampleValues.{SampleValues}
use Rattle.mp4_fragments.specs.declared.defaults.SampleDefaults.{SampleDefaults}

-- a run, where and when its first sample begins, and what its samples have where it doesn't list a value
pub record PlacedRun : Type 0 where
  pub at : RunStart
  pub run : TrunBox
  pub defaults : SampleDefaults

-- where sample j of a run begins, counted from 0: the samples before it follow each other by their sizes and durations
unfoldable pub at_run_sample : TrunBox → SampleDefaults → RunStart → ℕ → RunStart
at_run_sample run defaults at j = record {
  place = plus at.place (sum_of_first j run.sample_sizes defaults.size);
  time = plus at.time (sum_of_first j run.sample_durations defaults.duration);
}

-- its own flags where they are listed, else the default; the first sample's flags replace those of the first sample
abbrev pub flags_of : TrunBox → SampleDefaults → ℕ → ℕ
flags_of run defaults zero = unwrap_or run.first_sample_flags (get_or run.sample_flags 0 defaults.flags)
flags_of run defaults (suc j) = get_or run.sample_flags (suc j) defaults.flags

-- a sample is a sync sample where the flag of the others isn't set (8.8.3.1)
abbrev pub is_sync_in : TrunBox → SampleDefaults → ℕ → Bool
is_sync_in run defaults j = bit_and (flags_of run defaults j) 0x10000 == 0

-- sample j of a run; its composition offset is signed, whatever the version
unfoldable pub run_sample_of : PlacedRun → ℕ → RunSample
run_sample_of p j = record {
  at = at_run_sample p.run p.defaults p.at j;
  size = get_or p.run.sample_sizes j p.defaults.size;
  duration = get_or p.run.sample_durations j p.defaults.duration;
  rendering_offset = cast_signed w32 (get_or p.run.sample_cts j 0);
  is_sync = is_sync_in p.run p.defaults j;
}

-- what sample j of a run has beside where it begins
unfoldable pub values_of : PlacedRun → ℕ → SampleValues
values_of p j = record {
  size = get_or p.run.sample_sizes j p.defaults.size;
  duration = get_or p.run.sample_durations j p.defaults.duration;
  rendering_offset = cast_signed w32 (get_or p.run.sample_cts j 0);
  is_sync = is_sync_in p.run p.defaults j;
}

-- how many samples a run has
abbrev pub run_count : PlacedRun → ℕ
run_count p = p.run.sample_count

-- all samples of a run
unfoldable pub run_samples_of : PlacedRun → List RunSample
run_samples_of p = map (run_sample_of p) (range_with_len 0 (run_count p))

-- the samples of all runs, run by run
abbrev pub all_run_samples : List PlacedRun → List RunSample
all_run_samples runs = flat_map run_samples_of runs
