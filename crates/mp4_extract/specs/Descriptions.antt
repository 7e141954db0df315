-- The sample description of each sample, by its number from 1 (ISO/IEC 14496-12, 8.5.2): of the movie box's samples
-- that of their run of chunks (8.7.4), of others that of their track fragment (8.8.7), or else of the movie (8.8.3).
use Rattle.std.specs.Prelude.{ℕ, ◌+◌, ◌-◌, ◌^◌, min, Bool, nat_le, nat_lt, ◌==◌, ◌&&◌, if◌then◌else◌, List, [], ◌∷◌}
use Rattle.std.specs.Prelude.{Option, Some, None}
use Rattle.mp4_table.specs.declared.stsc.StscEntry.{StscEntry}
use Rattle.mp4_moof.specs.declared.trex.TrexBox.{TrexBox}
use Rattle.mp4_moof.specs.declared.trun.TrunBox.{TrunBox}
use Rattle.mp4_moof.specs.declared.mvex.MvexBox.{MvexBox}
use Rattle.mp4_moof.specs.declared.traf.TrafBox.{TrafBox}
use Rattle.mp4_boxes.specs.declared.trak.TrakBox.{TrakBox}
use Rattle.mp4_boxes.specs.Stbl.{sample_count}
use Rattle.mp4_samples.specs.Tables.{tables_of}
use Rattle.mp4_extract.specs.declared.descriptions.OtherSample.{OtherSample}
use Rattle.mp4_extract.specs.declared.format.SampleFormat.{SampleFormat}
use Rattle.mp4_extract.specs.declared.format.SampleFormat.TheVariants.{AsStored, AnnexB, Adts}

-- a run of chunks that begins with one of so many samples has another description than the first
abbrev pub is_other_entry : ℕ → StscEntry → Bool
is_other_entry count e = nat_lt 1 e.sample_description_index && nat_le e.first_sample count

-- the first of so many samples of chunks that has another description than the first
abbrev pub other_in_chunks : ℕ → List StscEntry → Option OtherSample
other_in_chunks count [] = None
other_in_chunks count (e ∷ es) =
    if is_other_entry count e then
    Some (record { number = e.first_sample; description = e.sample_description_index })
    else other_in_chunks count es

-- the description that these defaults say of the samples of a track's fragments, where others said one before
abbrev pub description_with : ℕ → TrexBox → ℕ → ℕ
description_with before trex id = if trex.track_id == id then trex.default_sample_description_index else before

-- that of the last defaults of the track with this id
abbrev pub default_description : ℕ → List TrexBox → ℕ → ℕ
default_description before [] id = before
default_description before (x ∷ xs) id = default_description (description_with before x id) xs id

-- how many samples there are with these track runs, when so many were before; a count stops at 32 bits
abbrev pub samples_after : ℕ → List TrunBox → ℕ
samples_after before [] = before
samples_after before (r ∷ rs) = samples_after (min (before + r.sample_count) (2 ^ 32 - 1)) rs

abbrev pub or_default : ℕ → Option ℕ → ℕ
or_default default None = default
or_default default (Some description) = description

-- the description of the samples of a track fragment
abbrev pub description_of : ℕ → TrafBox → ℕ
description_of default traf = or_default default traf.tfhd.sample_description_index

-- the first sample of a track fragment of this description, before which and with which so many samples are
abbrev pub other_traf : ℕ → ℕ → ℕ → Option OtherSample
other_traf before after description =
    if nat_lt 1 description && nat_lt before after then Some (record { number = before + 1; description = description })
    else None

abbrev pub first_of : Option OtherSample → Option OtherSample → Option OtherSample
first_of None other = other
first_of (Some first) other = Some first

-- the first of the samples that track fragments add to so many that has another description than the first
abbrev pub other_in_fragments : ℕ → ℕ → List TrafBox → Option OtherSample
other_in_fragments default before [] = None
other_in_fragments default before (t ∷ ts) =
    let after = samples_after before t.truns in
    first_of (other_traf before after (description_of default t)) (other_in_fragments default after ts)

-- what the movie says of the samples of fragments
abbrev pub trexs_in : Option MvexBox → List TrexBox
trexs_in None = []
trexs_in (Some mvex) = mvex.trexs

-- the first sample of a track that has another description than the first
unfoldable pub other_of_track : TrakBox → List TrafBox → Option MvexBox → Option OtherSample
other_of_track trak trafs mvex =
    let count = sample_count (tables_of trak) in
    first_of (other_in_chunks count (tables_of trak).stsc.entries)
    (other_in_fragments (default_description 1 (trexs_in mvex) trak.tkhd.track_id) count trafs)

-- the first sample that a format refuses for its description: none where samples are written as they are stored
abbrev pub other_for : SampleFormat → TrakBox → List TrafBox → Option MvexBox → Option OtherSample
other_for AsStored trak trafs mvex = None
other_for AnnexB trak trafs mvex = other_of_track trak trafs mvex
other_for Adts trak trafs mvex = other_of_track trak trafs mvex
