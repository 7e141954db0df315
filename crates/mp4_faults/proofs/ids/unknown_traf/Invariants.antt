use Rattle.std.proofs.Common.{◌≡◌, take, None}
use Rattle.mp4_codec.specs.Boxes.{all_refusal}
use Rattle.mp4_media.specs.MovieTracks.{unknown_id}
use Rattle.mp4_faults.specs.Ids.{has_id}
use Rattle.mp4_faults.proofs.ids.unknown_traf.Given as goal

abbrev pub invariant-loop-index : goal.invariant-loop-index
invariant-loop-index l = all_refusal (unknown_id (has_id l.ids)) (take l.index l.trafs) ≡ None
