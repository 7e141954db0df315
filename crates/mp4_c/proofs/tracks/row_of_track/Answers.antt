-- The track that was found is the one with this id.
use Rattle.std.proofs.Common.{◌≡◌, ap, sym, ◌∙◌}
use Rattle.mp4_media.specs.declared.movie.Movie.{Movie}
use Rattle.mp4_media.specs.MovieTracks.{at_id}
use Rattle.mp4_c.proofs.tracks.row_of_track.Goals as goal

pub returns : goal.returns
returns c =
    let same : c.tracks.result.now ≡ c.args.movie.now.movie.tracks =
    c.tracks.ensures ∙ ap (λ (m : Movie). m.tracks) c.deref.ensures in (
      c.in-Some.track.now,
      ap (λ tracks. at_id tracks c.args.id) (sym same) ∙ sym c.in-Some.ensures.value,
      c.track_info.ensures,
    )
