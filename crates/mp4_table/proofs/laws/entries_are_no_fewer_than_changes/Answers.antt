use Rattle.mp4_table.proofs.Entries.{changes-counts, from_one}
use Rattle.mp4_table.proofs.laws.entries_are_no_fewer_than_changes.Goals as goal

pub returns : goal.returns
returns c = record { counts = changes-counts; from_one = from_one }
