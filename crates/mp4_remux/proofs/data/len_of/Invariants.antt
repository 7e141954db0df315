use Rattle.std.proofs.Common.{◌≡◌, ◌^◌, ◌-◌, min, take}
use Rattle.mp4_remux.specs.Data.{data_len}
use Rattle.mp4_remux.proofs.data.len_of.Given as goal

-- how many bytes those so far have
abbrev pub invariant-loop-extent : goal.invariant-loop-extent
invariant-loop-extent l = l.len ≡ min (2 ^ 64 - 1) (data_len (take l.extent-index l.extents))
