-- How the edits of a track move the times of its texts (ISO/IEC 14496-12, 8.6.6). Where the first edit is empty, the
-- media begins later by its duration, and the next edit says with which tick of the media. Else the first edit does.
use Rattle.std.specs.Prelude.{ℕ, ◌-◌, ◌^◌, Bool, ◌==◌, nat_lt, if◌then◌else◌, slice_get, Option, Some, None, Result, Ok}
use Rattle.mp4_codec.specs.Cause.{Cause, ◌>>=◌}
use Rattle.mp4_leaf.specs.declared.elst.ElstEntry.{ElstEntry}
use Rattle.mp4_leaf.specs.declared.elst.ElstBox.{ElstBox}
use Rattle.mp4_boxes.specs.declared.edts.EdtsBox.{EdtsBox}
use Rattle.mp4_boxes.specs.declared.trak.TrakBox.{TrakBox}
use Rattle.mp4_extract.specs.declared.edits.SubtitleTimes.{SubtitleTimes}
use Rattle.mp4_extract.specs.declared.edits.SubtitleTimes.TheVariants.{Shown, Decoded}
use Rattle.mp4_extract.specs.declared.edits.TextShift.{TextShift}
use Rattle.mp4_extract.specs.Texts.{milliseconds_of}

-- whether an edit is empty: its media time is -1, of 64 bits in version 1, else of 32
abbrev pub is_empty_edit : ℕ → ElstEntry → Bool
is_empty_edit version e =
    if version == 1 then e.media_time == 2 ^ 64 - 1 else e.media_time == 2 ^ 32 - 1

-- how many ticks of the media are before the part that an edit shows; a negative number has the highest bit
abbrev pub skipped_by : ℕ → ElstEntry → ℕ
skipped_by version e =
    if nat_lt (if version == 1 then 2 ^ 63 - 1 else 2 ^ 31 - 1) e.media_time then 0 else e.media_time

-- the same of the edit after the first
abbrev pub skipped_by_next : ℕ → Option ElstEntry → ℕ
skipped_by_next version None = 0
skipped_by_next version (Some e) = skipped_by version e

-- nothing is moved
abbrev pub no_shift : TextShift
no_shift = record { delay = 0; skipped = 0 }

-- how a list that begins with these two edits moves the times of a movie with so many ticks in a second
abbrev pub shift_by_two : ℕ → Option ElstEntry → Option ElstEntry → ℕ → Result TextShift Cause
shift_by_two version None second timescale = Ok no_shift
shift_by_two version (Some e) second timescale =
    if is_empty_edit version e then (milliseconds_of e.segment_duration timescale >>= λ delay.
    Ok (record { delay = delay; skipped = skipped_by_next version second })) else
    Ok (record { delay = 0; skipped = skipped_by version e })

unfoldable pub shift_by : ElstBox → ℕ → Result TextShift Cause
shift_by list timescale = shift_by_two list.version (slice_get list.entries 0) (slice_get list.entries 1) timescale

abbrev pub edit_list_in : Option EdtsBox → Option ElstBox
edit_list_in None = None
edit_list_in (Some edts) = edts.elst

-- the edit list of a track
abbrev pub edit_list_of : TrakBox → Option ElstBox
edit_list_of trak = edit_list_in trak.edts

-- how the texts of a track with this edit list are moved
abbrev pub shift_of : SubtitleTimes → Option ElstBox → ℕ → Result TextShift Cause
shift_of Decoded edits timescale = Ok no_shift
shift_of Shown None timescale = Ok no_shift
shift_of Shown (Some list) timescale = shift_by list timescale
