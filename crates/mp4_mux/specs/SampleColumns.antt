-- Samples, of which each kind of number is in a list of its own.
use Rattle.std.specs.Prelude.{◌≡◌, ℕ, ℤ, Bool, List, length, map}
use Rattle.std.specs.List.{zip}
use Rattle.mp4_mux.specs.declared.sample_info.SampleInfo.{SampleInfo}

-- a sample of these values
abbrev pub info_with : ℕ × (ℕ × (ℤ × Bool)) → SampleInfo
info_with v = record { size = v.0; duration = v.1.0; rendering_offset = v.1.1.0; is_sync = v.1.1.1 }

-- the samples of these sizes, durations, rendering offsets, and of these that are sync samples
unfoldable pub infos_of : List ℕ → List ℕ → List ℤ → List Bool → List SampleInfo
infos_of sizes durations offsets syncs = map info_with (zip sizes (zip durations (zip offsets syncs)))

-- the lists are equally long
pub record AreAsMany (sizes durations : List ℕ) (offsets : List ℤ) (syncs : List Bool) : Type 0 where
  pub durations_count : length durations ≡ length sizes
  pub offsets_count : length offsets ≡ length sizes
  pub syncs_count : length syncs ≡ length sizes
