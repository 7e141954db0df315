use Rattle.std.proofs.Common.{◌≡◌, ◌∙◌, ◌<◌, length, sym, arith, ap, ◌++◌, ◌+◌, get_or, take, ℕ, List}
use Rattle.std.specs.List.{sum_by}
use Rattle.std.proofs.lemmas.List.Sums.{sum_by_more}
use Rattle.mp4_mux.specs.declared.chunk_place.ChunkPlace.{ChunkPlace}
use Rattle.mp4_mux.proofs.TableSteps.{no_chunk, entries_at_same, entries_at_other, entries_at_end}
use Rattle.mp4_mux.proofs.tables.chunk_entries.Goals as goal

-- one more chunk has its samples
more : (cs : List ChunkPlace) (i samples : ℕ) → i < length cs → samples ≡ sum_by (λ c. c.count) (take i cs)
    → samples + (get_or cs i no_chunk).count ≡ sum_by (λ c. c.count) (take (i + 1) cs)
more cs i samples h e = omega (arith, e, sum_by_more (λ (c : ChunkPlace). c.count) cs i no_chunk h)

pub loop-i-preserved-then-next-count : goal.loop-i-preserved-then-next-count
loop-i-preserved-then-next-count c = record {
  so_far = ap (λ rest. c.loop-i.entries.items ++ rest)
      (entries_at_same c.args.chunks.now no_chunk c.loop-i.count c.loop-i.samples c.loop-i.i c.loop-i-test.true
      c.if-next-count.true)
      ∙ c.loop-i.invariant.so_far;
  samples = more c.args.chunks.now c.loop-i.i c.loop-i.samples c.loop-i-test.true c.loop-i.invariant.samples;
}

pub loop-i-preserved : goal.loop-i-preserved
loop-i-preserved c = record {
  so_far = rw c.in_ok-push.ensures.items
      (entries_at_other c.args.chunks.now no_chunk c.loop-i.entries.items c.loop-i.count c.loop-i.samples c.loop-i.i
      c.loop-i-test.true c.if-next-count.false
      ∙ c.loop-i.invariant.so_far);
  samples = more c.args.chunks.now c.loop-i.i c.loop-i.samples c.loop-i-test.true c.loop-i.invariant.samples;
}

pub returns : goal.returns
returns c =
    sym (entries_at_end c.args.chunks.now no_chunk c.loop-i.entries.items c.loop-i.count c.loop-i.samples c.loop-i.i
    c.loop-i-test.false)
    ∙ c.loop-i.invariant.so_far
