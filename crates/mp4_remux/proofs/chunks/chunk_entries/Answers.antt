use Rattle.std.proofs.Common.{◌≡◌, ◌∙◌, ◌+◌, ◌-◌, ◌^◌, min, sym, arith}
use Rattle.mp4_remux.proofs.ChunkLaws.{entries_alike, entries_ended, entries_unlike, no_chunk}
use Rattle.mp4_remux.proofs.chunks.chunk_entries.Goals as goal

pub loop-chunk-preserved-then-is_alike : goal.loop-chunk-preserved-then-is_alike
loop-chunk-preserved-then-is_alike c =
    let next : c.saturating_add-number.result ≡ min (2 ^ 32 - 1) (c.loop-chunk.number + 1) = omega arith in
    entries_alike c.args.chunks.now c.loop-chunk.chunk-index c.loop-chunk.number c.saturating_add-number.result
    c.loop-chunk.before no_chunk c.loop-chunk-test.true next c.loop-chunk.entries.items
    (sym c.is_alike-is_alike.ensures ∙ c.if-is_alike.true)
    ∙ c.loop-chunk.invariant

pub loop-chunk-preserved : goal.loop-chunk-preserved
loop-chunk-preserved c =
    let next : c.saturating_add-number.result ≡ min (2 ^ 32 - 1) (c.loop-chunk.number + 1) = omega arith in
    rw c.in_ok-push.ensures.items
    (entries_unlike c.args.chunks.now c.loop-chunk.chunk-index c.loop-chunk.number c.saturating_add-number.result
    c.loop-chunk.before no_chunk c.loop-chunk-test.true next c.loop-chunk.entries.items
    (sym c.is_alike-is_alike.ensures ∙ c.if-is_alike.false)
    ∙ c.loop-chunk.invariant)

pub returns : goal.returns
returns c =
    sym (entries_ended c.args.chunks.now c.loop-chunk.entries.items c.loop-chunk.before c.loop-chunk.number
    c.loop-chunk.chunk-index c.loop-chunk-test.false)
    ∙ c.loop-chunk.invariant
