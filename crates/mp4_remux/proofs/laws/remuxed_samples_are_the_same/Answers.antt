use Rattle.mp4_remux.proofs.AlikeLaws.{has_ids, has_samples}
use Rattle.mp4_remux.proofs.laws.remuxed_samples_are_the_same.Goals as goal

pub returns : goal.returns
returns c = record { ids = has_ids; samples = has_samples }
