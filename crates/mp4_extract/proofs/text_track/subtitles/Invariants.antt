use Rattle.std.proofs.Common.{◌≡◌, ◌≤◌, ◌-◌}
use Rattle.mp4_extract.specs.Extracting.{IsReadIn}
use Rattle.mp4_extract.specs.Subtitles.{AreSubtitles, reading_of}
use Rattle.mp4_extract.proofs.text_track.subtitles.Given as goal

abbrev pub invariant-loop-answer : goal.invariant-loop-answer
invariant-loop-answer g l = record {
  track_id : l.reader.track_id ≡ l.track_id;
  timescale : l.reader.timescale ≡ l.initial.reader.timescale;
  shift : l.reader.shift ≡ l.initial.reader.shift;
  count : l.reader.count ≡ l.initial.reader.count;
  few : l.reader.read ≤ l.initial.reader.count;
  len : l.file.len ≡ l.fn.file.len;
  movie : l.file.movie ≡ l.fn.file.movie;
  contents : g.S.ByteSource.contents l.file.source ≡ g.S.ByteSource.contents l.fn.file.source;
  can_refuse : g.S.ByteSource.can_refuse l.file.source ≡ g.S.ByteSource.can_refuse l.fn.file.source;
  read : AreSubtitles (reading_of l.initial.reader) (IsReadIn (g.S.ByteSource.contents l.fn.file.source)
      l.fn.file.len l.fn.file.movie.tracks l.track_id) l.reader.read l.list.items;
}

abbrev pub decreases-loop-answer : goal.decreases-loop-answer
decreases-loop-answer g l = l.reader.count - l.reader.read
