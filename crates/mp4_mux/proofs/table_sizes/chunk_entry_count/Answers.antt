use Rattle.std.proofs.Common.{arith}
use Rattle.std.specs.Option.{option_to_list}
use Rattle.mp4_mux.proofs.TableSteps.{no_chunk}
use Rattle.mp4_mux.proofs.TableSizes.{changes_at_same, changes_at_other, changes_at_end, changes_none, changes_same}
use Rattle.mp4_mux.proofs.TableSizes.{changes_other}
use Rattle.mp4_mux.proofs.table_sizes.chunk_entry_count.Goals as goal

pub loop-chunk-preserved-then-chunk-before : goal.loop-chunk-preserved-then-chunk-before
loop-chunk-preserved-then-chunk-before c = record {
  so_far =
      omega (
        arith,
        c.loop-chunk.invariant.so_far,
        changes_at_same c.args.chunks.now (option_to_list c.args.last.now)
            no_chunk c.loop-chunk.before c.loop-chunk.chunk-index c.loop-chunk-test.true c.if-chunk-before.true,
      );
  count = omega (arith, c.loop-chunk.invariant.count);
}

pub loop-chunk-preserved : goal.loop-chunk-preserved
loop-chunk-preserved c = record {
  so_far =
      omega (
        arith,
        c.loop-chunk.invariant.so_far,
        changes_at_other c.args.chunks.now (option_to_list c.args.last.now)
            no_chunk c.loop-chunk.before c.loop-chunk.chunk-index c.loop-chunk-test.true c.if-chunk-before.false,
      );
  count = omega (arith, c.loop-chunk.invariant.count);
}

pub returns-in_default-clause-value : goal.returns-in_default-clause-value
returns-in_default-clause-value c =
    omega (
      arith,
      c.loop-chunk.invariant.so_far,
      changes_at_end c.args.chunks.now (option_to_list c.args.last.now) no_chunk c.loop-chunk.before
          c.loop-chunk.chunk-index c.loop-chunk-test.false,
      changes_none c.loop-chunk.before c.args.last.now c.in_default.is,
    )

pub returns-then-last-before-clause-value : goal.returns-then-last-before-clause-value
returns-then-last-before-clause-value c =
    omega (
      arith,
      c.loop-chunk.invariant.so_far,
      changes_at_end c.args.chunks.now (option_to_list c.args.last.now) no_chunk c.loop-chunk.before
          c.loop-chunk.chunk-index c.loop-chunk-test.false,
      changes_same c.loop-chunk.before c.args.last.now c.in-Some.last c.in-Some.is c.if-last-before.true,
    )

pub returns-clause-value : goal.returns-clause-value
returns-clause-value c =
    omega (
      arith,
      c.loop-chunk.invariant.so_far,
      changes_at_end c.args.chunks.now (option_to_list c.args.last.now) no_chunk c.loop-chunk.before
          c.loop-chunk.chunk-index c.loop-chunk-test.false,
      changes_other c.loop-chunk.before c.args.last.now c.in-Some.last c.in-Some.is c.if-last-before.false,
    )
