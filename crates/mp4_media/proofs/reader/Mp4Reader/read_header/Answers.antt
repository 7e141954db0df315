use Rattle.mp4_media.proofs.OpenAnswers.{answers-opening}
use Rattle.mp4_media.proofs.reader.Mp4Reader.read_header.Goals as goal

pub returns-clause-opening : goal.returns-clause-opening
returns-clause-opening c =
    answers-opening c.args.size c.args.reader c.open.result c.open.ensures.answer c.open.ensures.bytes
    c.open.ensures.tracks
