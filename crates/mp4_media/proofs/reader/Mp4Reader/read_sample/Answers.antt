use Rattle.std.proofs.Common.{ap}
use Rattle.std.proofs.lemmas.Result.{err_from_is_err_and}
use Rattle.mp4_codec.specs.Cause.{cause_of}
use Rattle.mp4_media.proofs.Reading.{sample_wants_none}
use Rattle.mp4_media.proofs.reader.Mp4Reader.read_sample.Goals as goal

pub returns-in_err-sample-clause-memory : goal.returns-in_err-sample-clause-memory
returns-in_err-sample-clause-memory c =
    let p = err_from_is_err_and c.from_residual.result c.from_residual.ensures.1 in
    rw (p.1, p.2) (λ memory. absurd (sample_wants_none c.args.self.now.bytes.now c.args.self.now.movie.tracks
    c.args.track_id c.args.k (cause_of c.in_err-sample.field-0.0) c.in_err-sample.ensures.rule (ap cause_of memory)))
