use Rattle.std.proofs.Common.{◌≡◌, ℕ, take}
use Rattle.mp4_media.specs.MovieTracks.{fragments_at, trafs_in, trafs_of}
use Rattle.mp4_media.proofs.fragments.fragments_by_id.Given as goal

abbrev pub invariant-loop-moof : goal.invariant-loop-moof
invariant-loop-moof l =
    (id : ℕ) → fragments_at l.fragments id ≡ trafs_of (trafs_in (take l.moof-index l.moofs)) id
