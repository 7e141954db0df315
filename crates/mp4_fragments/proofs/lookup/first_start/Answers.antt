use Rattle.std.proofs.Common.{refl}
use Rattle.mp4_fragments.specs.RunSamples.{at_run_sample}
use Rattle.mp4_fragments.proofs.ListedValues.{sum_of_first-none}
use Rattle.mp4_fragments.proofs.lookup.first_start.Goals as goal

pub returns : goal.returns
unfolding at_run_sample
returns c = λ run defaults.
    rw (
      c.add.ensures,
      c.add-2.ensures,
      sum_of_first-none run.sample_sizes defaults.size,
      sum_of_first-none run.sample_durations defaults.duration,
    ) refl
