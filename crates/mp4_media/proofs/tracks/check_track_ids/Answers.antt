use Rattle.std.proofs.Common.{refl, ◌∙◌}
use Rattle.std.proofs.lemmas.Bool.{ne_eqb}
use Rattle.mp4_codec.specs.Cause.{invalid_data}
use Rattle.mp4_codec.specs.ListLaws.{all_refusal-take_more, all_refusal-first}
use Rattle.mp4_media.specs.MovieTracks.{zero_id}
use Rattle.mp4_media.proofs.tracks.check_track_ids.Goals as goal

pub returns-then-trak-eq0 : goal.returns-then-trak-eq0
returns-then-trak-eq0 c =
    all_refusal-first zero_id c.args.traks.now c.loop-trak.trak-index c.trak-item.result invalid_data
    c.loop-trak-test.true c.trak-item.is c.loop-trak.invariant (rw c.if-trak-eq0.true refl)

pub loop-trak-preserved : goal.loop-trak-preserved
loop-trak-preserved c =
    all_refusal-take_more zero_id c.args.traks.now c.loop-trak.trak-index c.trak-item.result
    c.loop-trak-test.true c.trak-item.is c.loop-trak.invariant
    ∙ (rw (ne_eqb _ _ c.if-trak-eq0.false) refl)
