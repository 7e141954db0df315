-- Each turn fills in one track more.
use Rattle.std.proofs.Common.{get_or, arith}
use Rattle.std.proofs.lemmas.List.{set-get_or}
use Rattle.mp4_c.specs.TrackRows.{IsRowOf}
use Rattle.mp4_c.proofs.SampleRows.{next_rest}
use Rattle.mp4_c.proofs.TrackRows.{all_filled, each_next}
use Rattle.mp4_c.proofs.tracks.fill_tracks.Goals as goal

pub loop-k-preserved : goal.loop-k-preserved
loop-k-preserved c = record {
  rows = each_next (λ j row. IsRowOf c.args.movie.now.movie.tracks (get_or c.args.ids.now j 0) row) c.loop-k.rows
      c.loop-k.k c.row_of_track.result (omega arith) c.loop-k.invariant.rows c.row_of_track.ensures;
  rest = next_rest c.loop-k.rows c.args.rows.now c.loop-k.k c.row_of_track.result c.loop-k.invariant.rest;
  within = omega arith;
}

pub returns-then-k-ids-clause-rows : goal.returns-then-k-ids-clause-rows
returns-then-k-ids-clause-rows c =
    all_filled _ _ _ c.loop-k.rows _ c.loop-k.k (set-get_or _ _ _) c.loop-k.invariant.rows c.loop-k.invariant.rest
    (omega (arith, c.loop-k.invariant.within, c.if-k-ids.true))
