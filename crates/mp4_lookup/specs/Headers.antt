-- What the headers of a track say of it as a whole: how long it lasts and how large it is shown (ISO/IEC 14496-12,
-- 8.3.2 and 8.4.2).
use Rattle.std.specs.Prelude.{ℕ, ◌/◌, Result}
use Rattle.std.specs.Option.{option_map_or}
use Rattle.mp4_codec.specs.Cause.{Cause}
use Rattle.mp4_codec.specs.declared.fixed_point.FixedPointU16.{FixedPointU16}
use Rattle.mp4_entry.specs.declared.avc1.Avc1Box.{Avc1Box}
use Rattle.mp4_boxes.specs.declared.trak.TrakBox.{TrakBox}
use Rattle.mp4_lookup.specs.Time.{time_of}
use Rattle.mp4_samples.specs.Tables.{tables_of}

-- how long a track lasts by its media header (8.4.2), in microseconds
abbrev pub duration_of : TrakBox → Result ℕ Cause
duration_of trak = time_of 1000000 trak.mdia.mdhd.duration trak.mdia.mdhd.timescale

-- the whole part of a number of 16.16 bits
abbrev pub whole_part : FixedPointU16 → ℕ
whole_part n = n.raw / 65536

-- how wide the pictures of a track are, in pixels: by the sample entry of AVC video (8.5.2), else by the track
-- header (8.3.2)
abbrev pub width_of : TrakBox → ℕ
width_of trak = option_map_or (λ (e : Avc1Box). e.width) (tables_of trak).stsd.avc1 (whole_part trak.tkhd.width)

-- how high they are, by the same boxes
abbrev pub height_of : TrakBox → ℕ
height_of trak = option_map_or (λ (e : Avc1Box). e.height) (tables_of trak).stsd.avc1 (whole_part trak.tkhd.height)
