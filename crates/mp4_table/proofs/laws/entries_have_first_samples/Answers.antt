use Rattle.mp4_table.specs.StscLaws.{stsc_of-has_first_samples}
use Rattle.mp4_table.proofs.laws.entries_have_first_samples.Goals as goal

pub returns : goal.returns
returns c = stsc_of-has_first_samples
