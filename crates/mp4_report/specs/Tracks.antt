-- What the tracks of a file are.
use Rattle.std.specs.Prelude.{ℕ, List, ◌-◌, ◌*◌, ◌==◌, ◌||◌, not, Bool, true, false, if◌then◌else◌}
use Rattle.std.specs.Prelude.{length, codes}
use Rattle.std.specs.Prelude.{Option, Some, None, option_map, unwrap_or}
use Rattle.std.specs.HashMap.{HashMap, keys}
use Rattle.std.specs.Int.{w32, from_be_bytes}
use Rattle.std.specs.List.Sorted.{IsPermutation, IsSorted}
use Rattle.std.specs.Option.{option_and_then, option_map_or}
use Rattle.std.specs.Ordering.{nat_cmp}
use Rattle.std.specs.Result.{result_ok}
use Rattle.mp4_codec.specs.declared.four_cc.FourCC.{FourCC}
use Rattle.mp4_leaf.specs.declared.elst.ElstBox.{ElstBox}
use Rattle.mp4_entry.specs.declared.hev1.Hev1Box.{Hev1Box}
use Rattle.mp4_entry.specs.declared.vp09.Vp09Box.{Vp09Box}
use Rattle.mp4_boxes.specs.declared.edts.EdtsBox.{EdtsBox}
use Rattle.mp4_boxes.specs.declared.trak.TrakBox.{TrakBox}
use Rattle.mp4_samples.specs.Tables.{tables_of}
use Rattle.mp4_lookup.specs.declared.by_time.TimeRange.{TimeRange}
use Rattle.mp4_lookup.specs.declared.track.Mp4Track.{Mp4Track}
use Rattle.mp4_lookup.specs.ByTime.{time_range}
use Rattle.mp4_lookup.specs.Headers.{height_of, width_of}
use Rattle.mp4_lookup.specs.Time.{time_of}
use Rattle.mp4_lookup.specs.TrackRuns.{track_runs}
use Rattle.mp4_readable.specs.declared.json.Whole.{Whole}
use Rattle.mp4_readable.specs.declared.thousandths.Thousandths.{Thousandths}
use Rattle.mp4_report.specs.declared.summary.SampleSummary.{SampleSummary}
use Rattle.mp4_report.specs.declared.tracks.PictureSize.{PictureSize}
use Rattle.mp4_report.specs.declared.tracks.TrackKind.{TrackKind}
use Rattle.mp4_report.specs.declared.tracks.TrackKind.TheVariants.{Video, Audio, Subtitles, Other}
use Rattle.mp4_report.specs.declared.tracks.TrackReport.{TrackReport}
use Rattle.mp4_report.specs.CodecNames.{codec_name}
use Rattle.mp4_report.specs.Rates.{rate_of, thousandths_rate_of}
use Rattle.mp4_report.specs.Sounds.{sound_of}
use Rattle.mp4_report.specs.Summaries.{added, longest_ms, mean_ms}

-- what a track is for, by its handler (ISO/IEC 14496-12, 8.4.3)
unfoldable pub kind_of : FourCC → TrackKind
kind_of handler =
    let code = from_be_bytes w32 handler.value in
    if code == from_be_bytes w32 (codes "vide") then Video else
    if code == from_be_bytes w32 (codes "soun") then Audio else
    if (code == from_be_bytes w32 (codes "sbtl")) || (code == from_be_bytes w32 (codes "subt"))
    || (code == from_be_bytes w32 (codes "text")) then Subtitles else Other handler

abbrev pub is_video : TrackKind → Bool
is_video Video = true
is_video Audio = false
is_video Subtitles = false
is_video (Other handler) = false

-- the size of pictures, by the sample entry of HEVC or VP9, or else as the library answers it
abbrev pub hev1_size : Hev1Box → PictureSize
hev1_size entry = record { width = entry.width; height = entry.height }

abbrev pub vp09_size : Vp09Box → PictureSize
vp09_size entry = record { width = entry.width; height = entry.height }

unfoldable pub picture_size : TrakBox → PictureSize
picture_size trak =
    let stsd = (tables_of trak).stsd in
    option_map_or hev1_size stsd.hev1 (option_map_or vp09_size stsd.vp09
    (record { width = width_of trak; height = height_of trak }))

-- how many ticks the samples of a track last, from the first on
abbrev pub ticks_of_samples : Mp4Track → Option ℕ
ticks_of_samples track =
    option_map (λ (range : TimeRange). range.end - range.start) (time_range (tables_of track.trak) (track_runs track))

-- a duration that a media header doesn't know: 0, or all bits set, of 32 or of 64 (ISO/IEC 14496-12, 8.4.2)
abbrev pub is_unknown : ℕ → Bool
is_unknown duration = (duration == 0) || (duration == 0xffff_ffff) || (duration == 0xffff_ffff_ffff_ffff)

-- how many ticks a track lasts: as its media header says, but as its samples do where there are fragments or where the
-- header doesn't know
unfoldable pub track_ticks : Mp4Track → Option ℕ
track_ticks track =
    let duration = track.trak.mdia.mdhd.duration in
    if not (length track.trafs == 0) || is_unknown duration then ticks_of_samples track else Some duration

-- how many entries an edit list has
abbrev pub edit_count : Option ElstBox → ℕ
edit_count elst = option_map_or (λ (list : ElstBox). length list.entries) elst 0

unfoldable pub edits_of : TrakBox → ℕ
edits_of trak = option_map_or (λ (edts : EdtsBox). edit_count edts.elst) trak.edts 0

-- numbers of reports
abbrev pub whole : ℕ → Whole
whole n = record { 0 = n }

abbrev pub thousandths : ℕ → Thousandths
thousandths n = record { 0 = n }

-- the milliseconds of so many ticks, where they are known and within 64 bits
abbrev pub milliseconds : ℕ → Option ℕ → Option ℕ
milliseconds timescale ticks = option_and_then (λ t. result_ok (time_of 1000 t timescale)) ticks

-- the report of a track with this id, whose samples are these together: each field but its language
unfoldable pub with_fields : ℕ → Mp4Track → SampleSummary → TrackReport → TrackReport
with_fields id track summary report =
    let stsd = (tables_of track.trak).stsd in
    let kind = kind_of track.trak.mdia.hdlr.handler_type in
    let timescale = track.trak.mdia.mdhd.timescale in
    let ticks = track_ticks track in
    let spread = unwrap_or ticks 0 in
    record report {
      id = id;
      kind = kind;
      codec = codec_name stsd;
      pictures = if is_video kind then Some (picture_size track.trak) else None;
      frame_rate =
          if is_video kind then option_map thousandths (thousandths_rate_of summary.count spread timescale) else None;
      sound = option_map sound_of stsd.mp4a;
      bit_rate = option_map whole (rate_of (added 0 (summary.bytes * 8)) spread timescale);
      timescale = timescale;
      duration_ms = option_map whole (milliseconds timescale ticks);
      samples = whole summary.count;
      sync_samples = whole summary.sync;
      sync_longest_ms = option_map whole (longest_ms summary timescale);
      sync_mean_ms = option_map whole (mean_ms summary timescale);
      edits = whole (edits_of track.trak);
      fragments = whole (length track.trafs);
      past_end = summary.past_end;
    }

-- the ids of the tracks that a map keeps, each once, rising
pub record AreTrackIds {S : Type 0} (tracks : HashMap ℕ Mp4Track S) (ids : List ℕ) : Type 0 where
  pub same : IsPermutation (keys tracks) ids
  pub rising : IsSorted nat_cmp ids
