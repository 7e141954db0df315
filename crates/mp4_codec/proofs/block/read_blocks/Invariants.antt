use Rattle.std.proofs.Common.{◌≡◌, ◌≤◌, ◌*◌, ◌-◌, length}
use Rattle.std.specs.Prelude.{vec_len, vec_capacity}
use Rattle.mp4_codec.specs.Bytes.{list_at}
use Rattle.mp4_codec.specs.Blocks.{block_at}
use Rattle.mp4_codec.proofs.ListLoop.{with_front}
use Rattle.mp4_codec.proofs.block.read_blocks.Given as goal

abbrev pub invariant-loop : goal.invariant-loop
invariant-loop g l =
    record {
      read : with_front l.values.items
          (list_at (block_at g.T.Block.SIZE g.T.Block.in_block) (l.count - l.counter) l.rest)
          ≡ list_at (block_at g.T.Block.SIZE g.T.Block.in_block) l.count l.fn.fields;
      enough : (l.count - l.counter) * g.T.Block.SIZE ≤ length l.rest;
      many : vec_len l.values ≡ l.counter;
      room : vec_capacity l.values ≡ l.count;
    }
