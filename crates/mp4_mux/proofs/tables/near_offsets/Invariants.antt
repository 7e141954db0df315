use Rattle.std.proofs.Common.{◌≡◌, map, take}
use Rattle.mp4_mux.proofs.tables.near_offsets.Given as goal

abbrev pub invariant-loop-chunk : goal.invariant-loop-chunk
invariant-loop-chunk l = l.offsets.items ≡ map (λ c. c.offset) (take l.chunk-index l.chunks)
