use Rattle.std.proofs.Common.{◌-◌, ◌+◌, ◌≡◌, ◌≤◌, ℕ}
use Rattle.std.specs.List.{All}
use Rattle.mp4_media.specs.FileBoxes.{opened_movie}
use Rattle.mp4_remux.specs.Data.{AddsBytes, IsWithin}
use Rattle.mp4_remux.specs.Why.{HasSample}
use Rattle.mp4_remux.proofs.DataBytes.{IsFirstByte}
use Rattle.mp4_remux.proofs.data.push_track.Given as goal

-- there are so many samples, and their bytes were added
abbrev pub invariant-loop-k : goal.invariant-loop-k
invariant-loop-k l = record {
  upto : l.k ≤ l.most + 1;
  most : l.most ≡ l.fn.most;
  each : (j : ℕ) → 1 ≤ j → j ≤ l.k → HasSample (opened_movie l.movie) l.track_id j;
  bytes : AddsBytes (IsFirstByte (opened_movie l.movie) l.track_id l.k) l.fn.extents.items l.extents.items;
  within : All (IsWithin l.len) l.fn.extents.items → All (IsWithin l.len) l.extents.items;
}

abbrev pub decreases-loop-k : goal.decreases-loop-k
decreases-loop-k l = l.most + 1 - l.k
