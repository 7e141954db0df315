use Rattle.mp4_media.proofs.ReadBack.{read_back}
use Rattle.mp4_media.proofs.laws.written_movies_are_read_back.Goals as goal

pub returns : goal.returns
returns c = λ session empty ended opens file is fits. read_back session empty ended file is fits opens
