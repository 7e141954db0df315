-- What the tables of a track say of a sample.
use Rattle.std.specs.Prelude.{◌^◌, ◌<◌, FitsSigned}
use Rattle.std.specs.Int.{w32}
use Rattle.mp4_mux.specs.declared.sample_info.SampleInfo.{SampleInfo}

-- each number of it is within its type
pub record IsInRangeSampleInfo (s : SampleInfo) : Type 0 where
  pub size : s.size < 2 ^ 32
  pub duration : s.duration < 2 ^ 32
  pub rendering_offset : FitsSigned w32 s.rendering_offset
