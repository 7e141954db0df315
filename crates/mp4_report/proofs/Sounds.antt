-- Frequencies of sound.
use Rattle.std.proofs.Common.{◌≤◌, arith}
use Rattle.mp4_entry.specs.declared.sample_freq_index.SampleFreqIndex.{SampleFreqIndex}
use Rattle.mp4_entry.specs.SampleFreqIndex.{hertz}

-- none is above 96 kHz
pub hertz_small : (index : SampleFreqIndex) → hertz index ≤ 96000
hertz_small index = grind arith
