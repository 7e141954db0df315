-- How many samples a track has, and how many samples and bits in a second (ISO/IEC 14496-12, 8.4.2, 8.5.2 and 8.7.3).
use Rattle.std.specs.Prelude.{ℕ, ◌+◌, ◌-◌, ◌*◌, ◌/◌, ◌^◌, List, length, sum, Option, Some, None, Result, Ok, Err}
use Rattle.std.specs.Prelude.{nat_lt, ◌==◌, if◌then◌else◌}
use Rattle.std.specs.Option.{option_map_or}
use Rattle.mp4_codec.specs.declared.error.Limit.TheVariants.{Value}
use Rattle.mp4_codec.specs.Cause.{Cause, too_large, ◌>>=◌}
use Rattle.mp4_entry.specs.declared.mp4a.Mp4aBox.{Mp4aBox}
use Rattle.mp4_entry.specs.declared.esds.EsdsBox.{EsdsBox}
use Rattle.mp4_boxes.specs.declared.trak.TrakBox.{TrakBox}
use Rattle.mp4_boxes.specs.Stbl.{sample_count}
use Rattle.mp4_fragments.specs.RunSamples.{PlacedRun, all_run_samples}
use Rattle.mp4_lookup.specs.Headers.{duration_of}
use Rattle.mp4_samples.specs.Tables.{tables_of}

-- a number of at most 32 bits
abbrev pub within_32_bits : ℕ → Result ℕ Cause
within_32_bits n = if nat_lt (2 ^ 32 - 1) n then Err (too_large Value) else Ok n

-- how many samples a track has, to which fragments add these runs: those of its movie box (8.7.3), and all samples of
-- the runs (8.8.8)
unfoldable pub sample_count_of : TrakBox → List PlacedRun → Result ℕ Cause
sample_count_of trak runs = within_32_bits (sample_count (tables_of trak) + length (all_run_samples runs))

-- Samples in a second: the count over the duration in whole milliseconds. Where that is 0 the rate is 0, and the count
-- isn't looked at.
unfoldable pub frame_rate_of : TrakBox → List PlacedRun → Result ℕ Cause
frame_rate_of trak runs = do
  duration ← duration_of trak
  if duration / 1000 == 0 then Ok 0 else (do
    count ← sample_count_of trak runs
    Ok (count * 1000 / (duration / 1000)))

-- the bytes of all samples: the one size so many times, or the sum of those that are listed (8.7.3)
unfoldable pub total_size_of : TrakBox → List PlacedRun → Result ℕ Cause
total_size_of trak runs =
    let stsz = (tables_of trak).stsz in
    if nat_lt 0 stsz.sample_size then (sample_count_of trak runs >>= λ count. Ok (stsz.sample_size * count)) else
    Ok (sum stsz.sample_sizes)

-- Bits in a second, by the samples: those of all of them over the duration in whole seconds. Where that is 0 the rate
-- is 0, and the samples aren't looked at.
unfoldable pub measured_bitrate_of : TrakBox → List PlacedRun → Result ℕ Cause
measured_bitrate_of trak runs = do
  duration ← duration_of trak
  if duration / 1000000 == 0 then Ok 0 else (do
    total ← total_size_of trak runs
    within_32_bits (total * 8 / (duration / 1000000)))

-- bits in a second, as the entry of a track of sound says them; 0 without esds
abbrev pub declared_bitrate : Mp4aBox → ℕ
declared_bitrate entry = option_map_or (λ (e : EsdsBox). e.es_desc.dec_config.avg_bitrate) entry.esds 0

-- by the entry of sound where it is there, else by the samples
abbrev pub bitrate_by : Option Mp4aBox → Result ℕ Cause → Result ℕ Cause
bitrate_by (Some entry) measured = Ok (declared_bitrate entry)
bitrate_by None measured = measured

-- bits in a second (8.5.2)
unfoldable pub bitrate_of : TrakBox → List PlacedRun → Result ℕ Cause
bitrate_of trak runs = bitrate_by (tables_of trak).stsd.mp4a (measured_bitrate_of trak runs)
