use Rattle.std.proofs.Common.{arith}
use Rattle.mp4_mux.proofs.TableSteps.{no_chunk, offset_is_near}
use Rattle.mp4_mux.proofs.tables.near_offsets.Goals as goal

pub overflow_cast-chunk : goal.overflow_cast-chunk
overflow_cast-chunk c =
    omega (
      arith,
      offset_is_near c.args.chunks.now c.loop-chunk.chunk-index no_chunk c.requires c.loop-chunk-test.true,
    )
