-- The sampling frequencies that have an index (ISO/IEC 14496-3, 1.6.3.4).
use Rattle.std.specs.Prelude.{ℕ, List, [], ◌∷◌, Result}
use Rattle.mp4_codec.specs.Cause.{Cause}
use Rattle.mp4_entry.specs.declared.sample_freq_index.SampleFreqIndex.{SampleFreqIndex}
use Rattle.mp4_entry.specs.declared.sample_freq_index.SampleFreqIndex.TheVariants.{Freq96000, Freq88200, Freq64000}
use Rattle.mp4_entry.specs.declared.sample_freq_index.SampleFreqIndex.TheVariants.{Freq48000, Freq44100, Freq32000}
use Rattle.mp4_entry.specs.declared.sample_freq_index.SampleFreqIndex.TheVariants.{Freq24000, Freq22050, Freq16000}
use Rattle.mp4_entry.specs.declared.sample_freq_index.SampleFreqIndex.TheVariants.{Freq12000, Freq11025, Freq8000}
use Rattle.mp4_entry.specs.declared.sample_freq_index.SampleFreqIndex.TheVariants.{Freq7350}
use Rattle.mp4_entry.specs.Numbered.{numbered}

-- the index of a frequency
abbrev pub freq_number : SampleFreqIndex → ℕ
freq_number Freq96000 = 0
freq_number Freq88200 = 1
freq_number Freq64000 = 2
freq_number Freq48000 = 3
freq_number Freq44100 = 4
freq_number Freq32000 = 5
freq_number Freq24000 = 6
freq_number Freq22050 = 7
freq_number Freq16000 = 8
freq_number Freq12000 = 9
freq_number Freq11025 = 10
freq_number Freq8000 = 11
freq_number Freq7350 = 12

-- the frequencies in the order of their indices
abbrev pub freq_indices : List SampleFreqIndex
freq_indices = Freq96000 ∷ Freq88200 ∷ Freq64000 ∷ Freq48000 ∷ Freq44100 ∷ Freq32000 ∷ Freq24000 ∷ Freq22050
    ∷ Freq16000 ∷ Freq12000 ∷ Freq11025 ∷ Freq8000 ∷ Freq7350 ∷ []

-- the frequency with this index
abbrev pub freq_index_of : ℕ → Result SampleFreqIndex Cause
freq_index_of n = numbered freq_number freq_indices n

-- samples in a second
abbrev pub hertz : SampleFreqIndex → ℕ
hertz Freq96000 = 96000
hertz Freq88200 = 88200
hertz Freq64000 = 64000
hertz Freq48000 = 48000
hertz Freq44100 = 44100
hertz Freq32000 = 32000
hertz Freq24000 = 24000
hertz Freq22050 = 22050
hertz Freq16000 = 16000
hertz Freq12000 = 12000
hertz Freq11025 = 11025
hertz Freq8000 = 8000
hertz Freq7350 = 7350
