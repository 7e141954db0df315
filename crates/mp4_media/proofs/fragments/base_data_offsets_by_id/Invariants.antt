use Rattle.std.proofs.Common.{◌≡◌, ◌++◌, ℕ, drop}
use Rattle.mp4_media.specs.MovieTracks.{base_data_offsets_at, defaults_at, track_base_data_offsets}
use Rattle.mp4_media.proofs.fragments.base_data_offsets_by_id.Given as goal

-- what is kept and what is still to come are all base data offsets
abbrev pub invariant-loop-i : goal.invariant-loop-i
invariant-loop-i l =
    let of_track = track_base_data_offsets (defaults_at l.defaults) in
    (id : ℕ) → base_data_offsets_at l.base_data_offsets id ++ of_track (drop l.i l.moofs) (drop l.i l.places) id
    ≡ of_track l.moofs l.places id
