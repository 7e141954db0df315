use Rattle.std.proofs.Common.{◌≡◌, ◌^◌, ◌-◌, min, take}
use Rattle.mp4_remux.specs.Data.{closed_moves, data_len}
use Rattle.mp4_remux.proofs.data.closed_up.Given as goal

-- the moves so far, and how many bytes they have
abbrev pub invariant-loop-extent : goal.invariant-loop-extent
invariant-loop-extent l = record {
  moves : l.moves.items ≡ closed_moves 0 (take l.extent-index l.extents);
  to : l.to ≡ min (2 ^ 64 - 1) (data_len (take l.extent-index l.extents));
}
