use Rattle.std.proofs.Common.{refl}
use Rattle.mp4_fragments.specs.RunSamples.{run_sample_of, values_of}
use Rattle.mp4_fragments.proofs.run_samples.run_sample_run_start.Goals as goal

pub returns : goal.returns
unfolding run_sample_of values_of
returns c = λ first at. rw (c.begin_at.ensures, c.values_of.ensures first, at) refl
