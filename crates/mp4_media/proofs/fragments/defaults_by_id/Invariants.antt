use Rattle.std.proofs.Common.{◌≡◌, ℕ, take}
use Rattle.mp4_media.specs.MovieTracks.{at_id, defaults_with_id}
use Rattle.mp4_media.proofs.fragments.defaults_by_id.Given as goal

abbrev pub invariant-loop-trex : goal.invariant-loop-trex
invariant-loop-trex l = (id : ℕ) → at_id l.defaults id ≡ defaults_with_id (take l.trex-index l.trexs) id
