use Rattle.std.proofs.Common.{sym}
use Rattle.mp4_media.proofs.FoundBoxes.{of_known}
use Rattle.mp4_media.specs.Reading.{located_in}
use Rattle.mp4_extract.proofs.ReadTogether.{located, places_of, there_too}
use Rattle.mp4_extract.proofs.neighbours.neighbours_in.Goals as goal

pub returns-clause-places : goal.returns-clause-places
returns-clause-places g c =
    let tracks = c.args.file.now.movie.tracks in
    let track = c.in_ok-track.track.now in
    of_known c.neighbours_from.result _ _ c.neighbours_from.ensures.places
    (λ n there. there_too (places_of track) (located_in tracks c.args.track_id)
    (located tracks c.args.track_id track
    (rw (← c.deref.ensures, ← c.tracks.ensures) (sym c.in_ok-track.ensures.value)))
    c.args.k n.offset n.count n.size there)
