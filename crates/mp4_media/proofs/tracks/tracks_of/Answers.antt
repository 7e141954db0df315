use Rattle.std.proofs.Common.{inr, sym, ap, ◌∙◌}
use Rattle.std.proofs.lemmas.Result.{err_from_is_err_and}
use Rattle.mp4_codec.specs.Boxes.{all_refusal}
use Rattle.mp4_media.specs.MovieTracks.{zero_id}
use Rattle.mp4_media.proofs.Gathering.{id_fault-is}
use Rattle.mp4_media.proofs.tracks.tracks_of.Goals as goal

pub returns-in_err-check_fragments-clause-fault : goal.returns-in_err-check_fragments-clause-fault
returns-in_err-check_fragments-clause-fault c =
    let p =
    err_from_is_err_and c.from_residual-in_err-check_fragments.result
    c.from_residual-in_err-check_fragments.ensures.1 in
    rw (p.1, p.2)
    (inr (id_fault-is c.args.moov.now c.args.moofs.now c.args.places.now c.in_ok-tracks.tracks
    c.in_ok-tracks.ensures.tracks
    (ap (all_refusal zero_id) (sym c.as_slice.ensures) ∙ c.in_ok-check_track_ids.ensures)
    ∙ c.in_err-check_fragments.ensures))

pub returns-clause-fault : goal.returns-clause-fault
returns-clause-fault c =
    id_fault-is c.args.moov.now c.args.moofs.now c.args.places.now c.in_ok-tracks.tracks c.in_ok-tracks.ensures.tracks
    (ap (all_refusal zero_id) (sym c.as_slice.ensures) ∙ c.in_ok-check_track_ids.ensures)
    ∙ c.in_ok-check_fragments.ensures
