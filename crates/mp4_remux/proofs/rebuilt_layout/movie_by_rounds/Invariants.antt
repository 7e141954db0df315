use Rattle.std.proofs.Common.{◌-◌, List, length}
use Rattle.mp4_remux.specs.Data.{AreClosedUp}
use Rattle.mp4_remux.specs.declared.data.Extent.{Extent}
use Rattle.mp4_remux.proofs.EditedMost.{most_edited}
use Rattle.mp4_remux.proofs.PlanningRebuilt.{IsLeastMovie}
use Rattle.mp4_remux.proofs.rebuilt_layout.movie_by_rounds.Given as goal

-- no movie box is shorter that begins its data after one of this length
abbrev pub invariant-loop-movie : goal.invariant-loop-movie
invariant-loop-movie l = record {
  least : (extents : List Extent) → AreClosedUp extents l.fn.list
      → IsLeastMovie l.fn.edit l.fn.frame extents l.fn.header_len l.movie_len;
}

abbrev pub decreases-loop-movie : goal.decreases-loop-movie
decreases-loop-movie l = most_edited l.fn.edit (length l.fn.frame.movie_bytes.items) - l.movie_len
