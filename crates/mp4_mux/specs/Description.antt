-- The description of a written track's samples (ISO/IEC 14496-12, 8.5.2), and in that of sound the size of the
-- decoder's buffer (ISO/IEC 14496-1, 7.2.6.6).
use Rattle.std.specs.Prelude.{ℕ, ◌-◌, ◌^◌, List, fold, max, min, Some}
use Rattle.mp4_entry.specs.declared.config.MediaConfig.{MediaConfig}
use Rattle.mp4_entry.specs.declared.config.MediaConfig.TheVariants.{AvcConfig as Avc, HevcConfig as Hevc}
use Rattle.mp4_entry.specs.declared.config.MediaConfig.TheVariants.{Vp9Config as Vp9, AacConfig as Aac}
use Rattle.mp4_entry.specs.declared.config.MediaConfig.TheVariants.{TtxtConfig as Ttxt}
use Rattle.mp4_entry.specs.declared.mp4a.AacConfig.{AacConfig}
use Rattle.mp4_entry.specs.declared.mp4a.Mp4aBox.{Mp4aBox}
use Rattle.mp4_entry.specs.declared.esds.EsdsBox.{EsdsBox}
use Rattle.mp4_entry.specs.declared.stsd.StsdBox.{StsdBox}
use Rattle.mp4_entry.specs.Mp4a.{esds_of_config, mp4a_of_config}
use Rattle.mp4_entry.specs.Stsd.{stsd_of_config}
use Rattle.mp4_mux.specs.declared.sample_info.SampleInfo.{SampleInfo}

-- the size of the largest sample; 0 where there is none
abbrev pub largest_size : List SampleInfo → ℕ
largest_size ss = fold (λ largest s. max largest s.size) 0 ss

-- the same, as far as 24 bits go
unfoldable pub buffer_size : List SampleInfo → ℕ
buffer_size ss = min (largest_size ss) (2 ^ 24 - 1)

-- what a decoder of sound is started with, where its buffer has this size
abbrev pub esds_with : ℕ → AacConfig → EsdsBox
esds_with size c =
    let e = esds_of_config c in
    record e { es_desc = record e.es_desc { dec_config = record e.es_desc.dec_config { buffer_size_db = size } } }

-- the entry of sound, with a buffer of this size
abbrev pub mp4a_with : ℕ → AacConfig → Mp4aBox
mp4a_with size c = record (mp4a_of_config c) { esds = Some (esds_with size c) }

-- the description of the samples: the entry of the configuration, and the size of the buffer in that of sound
abbrev pub stsd_for : MediaConfig → List SampleInfo → StsdBox
stsd_for (Avc c) ss = stsd_of_config (Avc c)
stsd_for (Hevc c) ss = stsd_of_config (Hevc c)
stsd_for (Vp9 c) ss = stsd_of_config (Vp9 c)
stsd_for (Aac c) ss = record (stsd_of_config (Aac c)) { mp4a = Some (mp4a_with (buffer_size ss) c) }
stsd_for (Ttxt c) ss = stsd_of_config (Ttxt c)
