-- What a byte stream takes of the sample entry of a track of video (ISO/IEC 14496-15, 5.3.3.1 and 8.3.3.1).
use Rattle.std.specs.Prelude.{◌≡◌, ℕ, zero, suc, ◌<◌, List, [], ◌++◌, length, Result, Ok}
use Rattle.mp4_codec.specs.Bytes.{Reader, number_at, bytes_at, list_at}
use Rattle.mp4_codec.specs.Cause.{Cause, ◌>>=◌}
use Rattle.mp4_entry.specs.Avcc.{unit_at}
use Rattle.mp4_entry.specs.declared.avcc.AvcCBox.{AvcCBox}
use Rattle.mp4_entry.specs.declared.avcc.NalUnit.{NalUnit}
use Rattle.mp4_entry.specs.declared.hvcc.HvcCBox.{HvcCBox}
use Rattle.mp4_extract.specs.declared.annex_b.AnnexB.{AnnexB}
use Rattle.mp4_extract.specs.declared.coding.VideoCoding.TheVariants.{H264, H265}

-- of avcC: the sequence parameter sets, and then the picture parameter sets
unfoldable pub avc_stream : AvcCBox → AnnexB
avc_stream b = record {
  coding = H264;
  length_size_minus_one = b.length_size_minus_one;
  parameter_sets = b.sequence_parameter_sets ++ b.picture_parameter_sets;
}

-- the next array of hvcC: the type of its units, how many they are, and each after its length
unfoldable pub array_at : Reader (List NalUnit)
array_at bytes = do
  type ← number_at 1 bytes
  count ← number_at 2 type.1
  list_at unit_at count.0 count.1

-- so many arrays, as the units of all
unfoldable pub arrays_at : ℕ → Reader (List NalUnit)
arrays_at zero bytes = Ok ([], bytes)
arrays_at (suc n) bytes = do
  first ← array_at bytes
  others ← arrays_at n first.1
  Ok (first.0 ++ others.0, others.1)

-- units that were read before, and those that are read
abbrev pub after_units : List NalUnit → Result (List NalUnit × List ℕ) Cause → Result (List NalUnit × List ℕ) Cause
after_units before read = read >>= λ x. Ok (before ++ x.0, x.1)

-- of hvcC: the units of all arrays, in their order; the size of lengths is in the low two bits of the byte before the
-- number of arrays
unfoldable pub hevc_stream : HvcCBox → Result AnnexB Cause
hevc_stream b = do
  front ← bytes_at 21 b.raw
  length_size ← number_at 1 front.1
  count ← number_at 1 length_size.1
  units ← arrays_at count.0 count.1
  Ok (record {
    coding = H265;
    length_size_minus_one = length_size.0;
    parameter_sets = units.0;
  })

-- avcC has parameter sets
abbrev pub HasSets : AvcCBox → Type 0
HasSets b = 0 < length (b.sequence_parameter_sets ++ b.picture_parameter_sets)

-- how many arrays hvcC has, and what follows
unfoldable pub array_count : HvcCBox → Result (ℕ × List ℕ) Cause
array_count b = do
  front ← bytes_at 21 b.raw
  length_size ← number_at 1 front.1
  count ← number_at 1 length_size.1
  Ok count

-- hvcC has arrays
abbrev pub HasArrays : HvcCBox → Type 0
HasArrays b = (count : ℕ × List ℕ) × (array_count b ≡ Ok count) × (0 < count.0)
