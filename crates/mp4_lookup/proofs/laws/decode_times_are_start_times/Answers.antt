use Rattle.mp4_lookup.proofs.StartTimes.{times_of_place}
use Rattle.mp4_lookup.proofs.laws.decode_times_are_start_times.Goals as goal

pub returns : goal.returns
returns c = times_of_place
