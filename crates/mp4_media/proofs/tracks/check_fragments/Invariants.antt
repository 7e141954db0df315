use Rattle.std.proofs.Common.{◌≡◌, take, None}
use Rattle.mp4_media.specs.MovieTracks.{has_id, unknown_ids}
use Rattle.mp4_media.proofs.tracks.check_fragments.Given as goal

abbrev pub invariant-loop-moof : goal.invariant-loop-moof
invariant-loop-moof l = unknown_ids (has_id l.tracks) (take l.moof-index l.moofs) ≡ None
