use Rattle.std.proofs.Common.{◌-◌, ◌+◌, ◌≡◌, ◌≤◌, ℕ, length}
use Rattle.mp4_media.specs.FileBoxes.{opened_movie}
use Rattle.mp4_remux.specs.Descriptions.{AreFrom, description_of}
use Rattle.mp4_remux.specs.Moved.{IsBy}
use Rattle.mp4_remux.proofs.Counting.{IsTimed}
use Rattle.mp4_remux.proofs.MakingTables.{AreMade, IsShown}
use Rattle.mp4_remux.proofs.track_tables.tables_of.Given as goal

-- the tables hold the samples so far, which end when they say and have been shown when they say
abbrev pub invariant-loop-k : goal.invariant-loop-k
invariant-loop-k l = record {
  upto : l.k ≤ l.most + 1;
  most : l.most ≡ l.fn.most;
  timed : IsTimed (opened_movie l.movie) l.track_id l.k l.tables.duration;
  count : length l.tables.samples ≡ l.k;
  shown : IsShown (opened_movie l.movie) l.track_id l.k l.tables.shown;
  made : (to : ℕ → ℕ) → IsBy l.moves to → AreMade (opened_movie l.movie) l.track_id to l.k l.tables;
  described : AreFrom l.descriptions (description_of (opened_movie l.movie) l.track_id) (l.k + 1);
}

abbrev pub decreases-loop-k : goal.decreases-loop-k
decreases-loop-k l = l.most + 1 - l.k
