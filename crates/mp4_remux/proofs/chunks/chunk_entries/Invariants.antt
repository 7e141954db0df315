use Rattle.std.proofs.Common.{◌≡◌, ◌++◌, drop, None}
use Rattle.mp4_remux.specs.Chunks.{chunk_entries}
use Rattle.mp4_remux.proofs.chunks.chunk_entries.Given as goal

-- the entries so far, and those of the chunks that come next
abbrev pub invariant-loop-chunk : goal.invariant-loop-chunk
invariant-loop-chunk l =
    l.entries.items ++ chunk_entries l.before l.number (drop l.chunk-index l.chunks) ≡ chunk_entries None 1 l.chunks
