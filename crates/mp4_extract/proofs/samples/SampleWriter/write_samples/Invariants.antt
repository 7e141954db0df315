use Rattle.std.proofs.Common.{◌≡◌, ◌-◌, ◌≤◌}
use Rattle.mp4_extract.specs.Extracting.{AreWritten, IsReadIn}
use Rattle.mp4_extract.proofs.samples.SampleWriter.write_samples.Given as goal

abbrev pub invariant-loop-written : goal.invariant-loop-written
invariant-loop-written g l =
    (l.self.track_id ≡ l.fn.self.track_id) × (l.self.form ≡ l.fn.self.form) × (l.file.movie ≡ l.fn.file.movie)
    × (g.S.ByteSource.contents l.file.source ≡ g.S.ByteSource.contents l.fn.file.source)
    × (g.S.ByteSource.can_refuse l.file.source ≡ g.S.ByteSource.can_refuse l.fn.file.source)
    × (AreWritten l.fn.self.form (IsReadIn (g.S.ByteSource.contents l.fn.file.source) l.fn.file.len
    l.fn.file.movie.tracks l.fn.self.track_id) l.from
    (g.W.Write.contents l.fn.out) (g.W.Write.contents l.out) l.written)
    × (l.written ≤ l.count)
    × (l.file.len ≡ l.fn.file.len)

abbrev pub decreases-loop-written : goal.decreases-loop-written
decreases-loop-written g l = l.count - l.written
