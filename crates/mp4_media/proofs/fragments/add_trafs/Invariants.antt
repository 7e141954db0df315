use Rattle.std.proofs.Common.{◌≡◌, ℕ, take, ◌++◌}
use Rattle.mp4_media.specs.MovieTracks.{fragments_at, trafs_of}
use Rattle.mp4_media.proofs.fragments.add_trafs.Given as goal

abbrev pub invariant-loop-traf : goal.invariant-loop-traf
invariant-loop-traf l =
    (id : ℕ) → fragments_at l.fragments id
    ≡ fragments_at l.fn.fragments id ++ trafs_of (take l.traf-index l.trafs) id
