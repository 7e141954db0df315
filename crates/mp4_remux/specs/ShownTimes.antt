-- How long a track is shown whose tables are made (ISO/IEC 14496-12, 8.3.2.3, 8.4.2.3 and 8.6.6).
use Rattle.std.specs.Prelude.{◌≡◌, ◌⊎◌, ◌+◌, ◌-◌, ◌*◌, ◌^◌, ◌==◌, ◌||◌, ◌&&◌, ◌++◌, not, nat_lt, ℕ, min, Bool}
use Rattle.std.specs.Prelude.{if◌then◌else◌, List, [], ◌∷◌, Some, None}
use Rattle.std.specs.Int.{div_ceil}
use Rattle.mp4_leaf.specs.declared.elst.ElstEntry.{ElstEntry}
use Rattle.mp4_leaf.specs.declared.mdhd.MdhdBox.{MdhdBox}
use Rattle.mp4_remux.specs.Headers.{edits_time}
use Rattle.mp4_remux.specs.declared.edits.ShownTime.{ShownTime}

-- a number as 64 bits have it
abbrev pub in_64_bits : ℕ → ℕ
in_64_bits n = min (2 ^ 64 - 1) n

-- a duration in ticks of a track, in those of the movie, rounded up; a clock without ticks measures nothing
abbrev pub movie_ticks : ℕ → ℕ → ℕ → ℕ
movie_ticks duration clock own = if own == 0 then 0 else in_64_bits (div_ceil (duration * clock) own)

-- an edit shows nothing of the media: its time is -1, of 32 bits or of 64 (8.6.6.3)
abbrev pub is_empty : ElstEntry → Bool
is_empty e = (e.media_time == 2 ^ 64 - 1) || (e.media_time == 2 ^ 32 - 1)

-- an edit that is so long ends with the media of the movie box alone, to which fragments add: later by a tick at most
abbrev pub ends_with_header : MdhdBox → ℕ → ℕ → ElstEntry → Bool
ends_with_header header duration clock e =
    nat_lt 0 header.duration && (nat_lt header.duration duration
    && not (nat_lt (in_64_bits (e.segment_duration + 1))
    (movie_ticks (header.duration - e.media_time) clock header.timescale)))

-- an edit lasts to the end of media that last so long: it says no duration, or ends with those of the movie box alone
abbrev pub lasts_to_the_end : MdhdBox → ℕ → ℕ → ElstEntry → Bool
lasts_to_the_end header duration clock e =
    not (is_empty e) && ((e.segment_duration == 0) || ends_with_header header duration clock e)

-- how long the last edit is then: to the end of the media, or as it says
abbrev pub last_time : MdhdBox → ℕ → ℕ → ElstEntry → ℕ
last_time header duration clock e =
    if lasts_to_the_end header duration clock e then movie_ticks (duration - e.media_time) clock header.timescale
    else e.segment_duration

-- A track with these edits is shown so long by the movie's clock, whose media last so long: as long as its edits, of
-- which the last is said anew where it lasts to the end of the media; and one without edits as long as its media.
abbrev pub IsShownTime : List ElstEntry → MdhdBox → ℕ → ℕ → ShownTime → Type 0
IsShownTime edits header duration clock shown =
    ((edits ≡ []) × ((shown.total ≡ movie_ticks duration clock header.timescale) × (shown.last ≡ None)))
    ⊎ ((before : List ElstEntry) × ((last : ElstEntry) × ((edits ≡ before ++ last ∷ [])
    × ((shown.total ≡ in_64_bits (in_64_bits (edits_time before) + last_time header duration clock last))
    × (shown.last ≡ if lasts_to_the_end header duration clock last then
    Some (movie_ticks (duration - last.media_time) clock header.timescale) else None)))))
