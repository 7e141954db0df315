use Rattle.std.proofs.Common.{◌-◌, ◌+◌, ◌≡◌, ◌≤◌, ◌<◌, ℕ, [], length}
use Rattle.std.specs.List.{All}
use Rattle.mp4_media.specs.FileBoxes.{opened_movie}
use Rattle.mp4_remux.specs.Data.{AddsBytes, IsWithin}
use Rattle.mp4_remux.specs.Why.{HaveSamples}
use Rattle.mp4_remux.proofs.DataBytes.{IsFirstDataByte}
use Rattle.mp4_remux.proofs.data.data_of.Given as goal

-- the tracks that were looked at have the samples that aren't left, and their bytes were added
abbrev pub invariant-loop-i : goal.invariant-loop-i
invariant-loop-i l = record {
  upto : l.i ≤ length l.ids;
  few : l.left < 4294967295;
  ids : l.ids ≡ l.fn.ids;
  have : (n : ℕ) × (HaveSamples (opened_movie l.fn.movie) l.fn.ids l.i n × (l.fn.most ≡ l.left + n));
  bytes : AddsBytes (IsFirstDataByte (opened_movie l.fn.movie) l.fn.ids l.i) [] l.extents.items;
  within : All (IsWithin l.fn.len) l.extents.items;
}

abbrev pub decreases-loop-i : goal.decreases-loop-i
decreases-loop-i l = length l.ids - l.i
