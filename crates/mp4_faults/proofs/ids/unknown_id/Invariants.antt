use Rattle.std.proofs.Common.{◌≡◌, take, None}
use Rattle.mp4_media.specs.MovieTracks.{unknown_ids}
use Rattle.mp4_faults.specs.Ids.{has_id}
use Rattle.mp4_faults.proofs.ids.unknown_id.Given as goal

abbrev pub invariant-loop-index : goal.invariant-loop-index
invariant-loop-index l = unknown_ids (has_id l.ids) (take l.index l.moofs) ≡ None
