-- The rows before the index are of the ids that were passed over, and the others are as they were.
use Rattle.std.proofs.Common.{◌≡◌, ℕ, ◌<◌, ◌≤◌, length, drop, get_or}
use Rattle.mp4_c.specs.declared.tracks.TrackInfo.{TrackInfo}
use Rattle.mp4_c.specs.TrackRows.{IsRowOf}
use Rattle.mp4_c.proofs.tracks.fill_tracks.Given as goal

abbrev pub invariant-loop-k : goal.invariant-loop-k
invariant-loop-k l = record {
  rows : (d : TrackInfo) (j : ℕ) → j < l.k → IsRowOf l.movie.movie.tracks (get_or l.ids j 0) (get_or l.rows j d);
  rest : drop l.k l.rows ≡ drop l.k l.fn.rows;
  within : l.k ≤ length l.ids;
}
