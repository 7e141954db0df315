use Rattle.std.proofs.Common.{arith}
use Rattle.mp4_media.proofs.Reading.{sample_in-plain}
use Rattle.mp4_media.proofs.reader.Mp4Reader.read_sample_ref.Goals as goal

pub returns-clause-plain : goal.returns-clause-plain
returns-clause-plain c = λ t is whole fits.
    rw (sample_in-plain c.args.self.now.bytes.now c.args.self.now.movie.tracks c.args.track_id c.args.k t is whole fits
    (omega arith))
    at c.borrowed.ensures.rule
