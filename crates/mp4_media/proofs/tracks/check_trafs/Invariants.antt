use Rattle.std.proofs.Common.{◌≡◌, take, None}
use Rattle.mp4_codec.specs.Boxes.{all_refusal}
use Rattle.mp4_media.specs.MovieTracks.{has_id, unknown_id}
use Rattle.mp4_media.proofs.tracks.check_trafs.Given as goal

abbrev pub invariant-loop-traf : goal.invariant-loop-traf
invariant-loop-traf l = all_refusal (unknown_id (has_id l.tracks)) (take l.traf-index l.trafs) ≡ None
