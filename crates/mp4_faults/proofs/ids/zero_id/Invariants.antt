use Rattle.std.proofs.Common.{◌≡◌, take, None}
use Rattle.mp4_codec.specs.Boxes.{all_refusal}
use Rattle.mp4_media.specs.MovieTracks.{zero_id}
use Rattle.mp4_faults.proofs.ids.zero_id.Given as goal

abbrev pub invariant-loop-index : goal.invariant-loop-index
invariant-loop-index l = all_refusal zero_id (take l.index l.traks) ≡ None
