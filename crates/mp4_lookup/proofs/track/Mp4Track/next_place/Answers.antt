use Rattle.mp4_lookup.proofs.InOrder.{of_place}
use Rattle.mp4_lookup.proofs.track.Mp4Track.next_place.Goals as goal

pub returns-then-is_of_movie-clause-here : goal.returns-then-is_of_movie-clause-here
returns-then-is_of_movie-clause-here c =
    of_place c.place.result _ _ c.place.ensures.here (λ here of_movie. rw c.requires.of_track at here)
