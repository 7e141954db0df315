use Rattle.mp4_remux.proofs.Naming.{index_places}
use Rattle.mp4_remux.proofs.places.is_segment_index.Goals as goal

pub returns : goal.returns
returns c = λ is. index_places c.args.name c.from.result c.from.ensures is
