use Rattle.std.proofs.Common.{◌≡◌, ℕ, drop, Some}
use Rattle.mp4_media.specs.MovieTracks.{defaults_at}
use Rattle.mp4_media.proofs.BaseDataOffsetsByTrack.{and_to_come}
use Rattle.mp4_media.proofs.fragments.add_base_data_offsets.Given as goal

-- what is kept and what is still to come are all base data offsets
abbrev pub invariant-loop-i : goal.invariant-loop-i
invariant-loop-i l =
    let all = and_to_come (defaults_at l.defaults) l.moof in
    (id : ℕ) → all l.base_data_offsets l.before (drop l.i l.trafs) id
    ≡ all l.fn.base_data_offsets (Some l.moof) l.trafs id
