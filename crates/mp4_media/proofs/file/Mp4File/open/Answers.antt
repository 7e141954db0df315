use Rattle.mp4_codec.specs.Cursor.{here}
use Rattle.mp4_media.proofs.FoundBoxes.{of_known}
use Rattle.mp4_media.proofs.OpenAnswers.{read-opening}
use Rattle.mp4_media.proofs.file.Mp4File.open.Goals as goal

pub returns-clause-opening : goal.returns-clause-opening
returns-clause-opening g c =
    of_known (g.S.ByteSource.contents c.args.source) _ _ c.open_file.ensures.answer
    (λ bytes a. read-opening _ _ c.args.size (here bytes c.args.start) c.open_file.result a)
