use Rattle.mp4_entry.proofs.ConfigLaws.{length-stsd_of_config, media_written}
use Rattle.mp4_entry.proofs.laws.configurations_are_written.Goals as goal

pub returns-clause-size : goal.returns-clause-size
returns-clause-size c = length-stsd_of_config

pub returns-clause-written : goal.returns-clause-written
returns-clause-written c = media_written
