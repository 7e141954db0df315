use Rattle.std.proofs.Common.{cond, Some, None, sym, ap, ◌∙◌}
use Rattle.mp4_codec.specs.Cause.{trak_not_found}
use Rattle.mp4_codec.specs.ListLaws.{all_refusal-take_more}
use Rattle.mp4_media.specs.MovieTracks.{unknown_id}
use Rattle.mp4_faults.specs.Ids.{has_id}
use Rattle.mp4_faults.proofs.FirstOf.{first-in}
use Rattle.mp4_faults.proofs.ids.unknown_traf.Goals as goal

pub returns-then-not-is_known-clause-first : goal.returns-then-not-is_known-clause-first
returns-then-not-is_known-clause-first c =
    let traf = c.index-trafs-index.result in
    let cause = trak_not_found traf.tfhd.track_id in (
      traf,
      first-in (unknown_id (has_id c.args.ids.now)) c.args.trafs.now c.loop-index.index traf cause
          c.loop-index-test.true c.index-trafs-index.is c.loop-index.invariant
          (ap (λ b. cond b None (Some cause)) (sym c.if-not-is_known.ensures)),
    )

pub loop-index-preserved : goal.loop-index-preserved
loop-index-preserved c =
    let traf = c.index-trafs-index.result in
    all_refusal-take_more (unknown_id (has_id c.args.ids.now)) c.args.trafs.now c.loop-index.index traf
    c.loop-index-test.true c.index-trafs-index.is c.loop-index.invariant
    ∙ ap (λ b. cond b None (Some (trak_not_found traf.tfhd.track_id))) (sym c.if-not-is_known.ensures)
