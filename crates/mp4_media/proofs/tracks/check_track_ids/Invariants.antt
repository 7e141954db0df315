use Rattle.std.proofs.Common.{◌≡◌, take, None}
use Rattle.mp4_codec.specs.Boxes.{all_refusal}
use Rattle.mp4_media.specs.MovieTracks.{zero_id}
use Rattle.mp4_media.proofs.tracks.check_track_ids.Given as goal

abbrev pub invariant-loop-trak : goal.invariant-loop-trak
invariant-loop-trak l = all_refusal zero_id (take l.trak-index l.traks) ≡ None
