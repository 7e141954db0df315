-- What tracks have, for the check.
use Rattle.mp4_mux.proofs.ConfigLaws.{entry_length-accepted}
use Rattle.mp4_mux.proofs.FinishedTrackLaws.{counts_of-placed, offsets_of-placed, length-trak_with}

-- a chunk as it was noted, and as it is placed
pub ruleset placed = (counts_of-placed, offsets_of-placed)

-- the length of the box of a track, and of the entry in it
pub ruleset lengths = (length-trak_with, entry_length-accepted)
