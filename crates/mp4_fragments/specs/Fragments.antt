-- The samples that fragments add to a track, in order (ISO/IEC 14496-12, 8.8.4 to 8.8.8 and 8.8.12).
use Rattle.std.specs.Prelude.{ℕ, nat_lt, Bool, List, [], ◌∷◌, ◌++◌, fold, zip, Option, Some, None, if◌then◌else◌}
use Rattle.std.specs.List.{list_any}
use Rattle.mp4_moof.specs.declared.tfdt.TfdtBox.{TfdtBox}
use Rattle.mp4_moof.specs.declared.trun.TrunBox.{TrunBox}
use Rattle.mp4_moof.specs.declared.traf.TrafBox.{TrafBox}
use Rattle.mp4_fragments.specs.BaseDataOffsets.{data_begins}
use Rattle.mp4_fragments.specs.Defaults.{defaults_in}
use Rattle.mp4_fragments.specs.RunSamples.{PlacedRun, at_run_sample, all_run_samples}
use Rattle.mp4_fragments.specs.declared.defaults.SampleDefaults.{SampleDefaults}
use Rattle.mp4_fragments.specs.declared.run_samples.RunStart.{RunStart}
use Rattle.mp4_fragments.specs.declared.run_samples.RunSample.{RunSample}

-- what was walked: where and when the next sample begins if nothing else is said, and the runs so far
pub record Walk : Type 0 where
  pub at : RunStart
  pub runs : List PlacedRun

-- the first sample of a run begins when the sample before it has lasted, and where the run's data begins
abbrev pub begins : Option ℕ → TrunBox → RunStart → RunStart
begins base_data_offset run at =
    record { place = data_begins base_data_offset run.data_offset at.place; time = at.time }

unfoldable pub with_run : Option ℕ → SampleDefaults → Walk → TrunBox → Walk
with_run base_data_offset defaults walk run =
    let at : RunStart = begins base_data_offset run walk.at in
    record {
      at = at_run_sample run defaults at run.sample_count;
      runs = walk.runs ++ record { at = at; run = run; defaults = defaults } ∷ [];
    }

-- a track fragment begins at its own time, or when the track's samples before it have lasted
abbrev pub first_time : Option TfdtBox → Option ℕ → Option ℕ
first_time None end = end
first_time (Some tfdt) end = Some tfdt.base_media_decode_time

abbrev pub has_run_samples : TrafBox → Bool
has_run_samples traf = list_any (λ run. nat_lt 0 run.sample_count) traf.truns

-- a track fragment, and its base data offset: one without samples doesn't move the time
unfoldable pub with_traf : SampleDefaults → Walk → TrafBox × Option ℕ → Walk
with_traf track walk (traf, base_data_offset) =
    let first : Walk = record {
      at = record { place = base_data_offset; time = first_time traf.tfdt walk.at.time };
      runs =
          walk.runs;
    } in
    let last : Walk = fold (with_run base_data_offset (defaults_in traf track)) first traf.truns in
    record {
      at = record { place = last.at.place; time = if has_run_samples traf then last.at.time else walk.at.time };
      runs = last.runs;
    }

-- The runs of a track with these defaults, whose fragments have these base data offsets, and whose samples before the
-- fragments end at a time.
unfoldable pub placed_runs : SampleDefaults → ℕ → List TrafBox → List (Option ℕ) → List PlacedRun
placed_runs track end trafs base_data_offsets =
    let none : Walk = record { at = record { place = None; time = Some end }; runs = [] } in
    (fold (with_traf track) none (zip trafs base_data_offsets)).runs

-- and the samples that they add to it
unfoldable pub fragment_samples : SampleDefaults → ℕ → List TrafBox → List (Option ℕ) → List RunSample
fragment_samples track end trafs base_data_offsets = all_run_samples (placed_runs track end trafs base_data_offsets)
