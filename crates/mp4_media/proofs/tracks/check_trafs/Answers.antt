use Rattle.std.proofs.Common.{cond, Some, None, sym, ap, ◌∙◌}
use Rattle.mp4_codec.specs.Cause.{trak_not_found}
use Rattle.mp4_codec.specs.ListLaws.{all_refusal-take_more, all_refusal-first}
use Rattle.mp4_media.specs.MovieTracks.{has_id, unknown_id}
use Rattle.mp4_media.proofs.tracks.check_trafs.Goals as goal

pub returns-then-not-has_track : goal.returns-then-not-has_track
returns-then-not-has_track c =
    let cause = trak_not_found c.traf-item.result.tfhd.track_id in
    all_refusal-first (unknown_id (has_id c.args.tracks.now)) c.args.trafs.now c.loop-traf.traf-index
    c.traf-item.result cause c.loop-traf-test.true c.traf-item.is c.loop-traf.invariant
    (ap (λ b. cond b None (Some cause)) (sym c.if-not-has_track.ensures))

pub loop-traf-preserved : goal.loop-traf-preserved
loop-traf-preserved c =
    all_refusal-take_more (unknown_id (has_id c.args.tracks.now)) c.args.trafs.now c.loop-traf.traf-index
    c.traf-item.result c.loop-traf-test.true c.traf-item.is c.loop-traf.invariant
    ∙ ap (λ b. cond b None (Some (trak_not_found c.traf-item.result.tfhd.track_id)))
    (sym c.if-not-has_track.ensures)
