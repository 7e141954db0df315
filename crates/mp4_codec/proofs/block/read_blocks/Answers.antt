use Rattle.std.proofs.Common.{◌≡◌, ℕ, suc, ◌+◌, ◌-◌, ◌*◌, ◌≤◌, List, length, Ok, arith, rules, suc-mul}
use Rattle.std.proofs.lemmas.List.{length-drop}
use Rattle.mp4_codec.specs.Bytes.{list_at}
use Rattle.mp4_codec.specs.Blocks.{block_at, block-is_block, is_block-reads}
use Rattle.mp4_codec.proofs.ListLoop.{goes_on, is_done}
use Rattle.mp4_codec.proofs.block.read_blocks.Goals as goal

pub loop-preserved : goal.loop-preserved
loop-preserved g c =
    let n : ℕ = g.T.Block.SIZE in
    let value = g.T.Block.in_block in
    let read = block_at n value in
    let rest : List ℕ = c.loop.rest.now in
    let left : ℕ = c.args.count - (c.loop.counter + 1) in
    let one_more : c.args.count - c.loop.counter ≡ suc left = omega arith in
    let enough : suc left * n ≤ length rest = rw one_more at c.loop.invariant.enough in
    let here : n ≤ length rest = omega (arith, suc-mul left n) in
    let total = list_at read c.args.count c.args.fields.now in
    let first : read rest ≡ Ok (c.from_block.result, c.split_at.result.1.now) =
    rw (c.from_block.ensures, c.split_at.ensures.front, c.split_at.ensures.back, c.SIZE.ensures)
    (is_block-reads read n value (block-is_block n value) rest here) in
    record {
      read =
          rw c.push_reserved.ensures.items
          (goes_on read c.loop.values.items c.args.count c.loop.counter rest c.from_block.result
          c.split_at.result.1.now total
          c.loop-test.true first c.loop.invariant.read);
      enough = rw (c.split_at.ensures.back, c.SIZE.ensures) (omega (arith, suc-mul left n, length-drop n rest));
      many = search rules;
      room = search rules;
    }

pub returns : goal.returns
returns g c =
    let read = block_at g.T.Block.SIZE g.T.Block.in_block in
    let total = list_at read c.args.count c.args.fields.now in
    rw (c.from.ensures, c.new.ensures)
    (is_done read c.loop.values.items c.args.count c.loop.counter c.loop.rest.now total c.loop-test.false
    c.loop.invariant.read)
