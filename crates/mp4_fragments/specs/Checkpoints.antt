-- Where samples of a run begin, as far as it is kept.
use Rattle.std.specs.Prelude.{◌≡◌, ℕ, ◌+◌, ◌*◌, ◌<◌, List, length, get_or}
use Rattle.mp4_moof.specs.declared.trun.TrunBox.{TrunBox}
use Rattle.mp4_fragments.specs.RunSamples.{at_run_sample}
use Rattle.mp4_fragments.specs.declared.defaults.SampleDefaults.{SampleDefaults}
use Rattle.mp4_fragments.specs.declared.run_samples.RunStart.{RunStart}

-- where every 64th sample begins, from the 64th on
pub record AreCheckpoints (run : TrunBox) (defaults : SampleDefaults) (first : RunStart)
    (checks : List RunStart) : Type 0 where
  pub each : (q : ℕ) (d : RunStart) → q < length checks → get_or checks q d ≡ at_run_sample run defaults first (64 *
      (q + 1))
