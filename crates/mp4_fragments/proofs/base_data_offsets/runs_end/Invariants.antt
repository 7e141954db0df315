use Rattle.std.proofs.Common.{◌≡◌, fold, take}
use Rattle.mp4_fragments.specs.BaseDataOffsets.{data_ends}
use Rattle.mp4_fragments.proofs.base_data_offsets.runs_end.Given as goal

abbrev pub invariant-loop-run : goal.invariant-loop-run
invariant-loop-run l =
    l.end ≡ fold (data_ends l.base_data_offset l.defaults) l.base_data_offset (take l.run-index l.runs)
