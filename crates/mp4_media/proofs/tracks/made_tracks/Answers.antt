use Rattle.std.proofs.Common.{ap, ◌∙◌}
use Rattle.std.specs.Prelude.{unwrap_or}
use Rattle.mp4_fragments.specs.Defaults.{no_defaults}
use Rattle.mp4_media.specs.MovieTracks.{defaults_with_id}
use Rattle.mp4_media.proofs.tracks.made_tracks.Goals as goal

pub tracks_with_defaults-requires-clause-defaults : goal.tracks_with_defaults-requires-clause-defaults
tracks_with_defaults-requires-clause-defaults c = λ id.
    ap (λ o. unwrap_or o no_defaults)
    (c.in_ok-defaults.ensures id ∙ ap (λ xs. defaults_with_id xs id) c.trexs_of.ensures)
