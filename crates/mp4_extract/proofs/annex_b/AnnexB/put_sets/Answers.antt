use Rattle.std.proofs.Common.{take, ◌∙◌, rules}
use Rattle.mp4_codec.specs.PutLaws.{nothing_added}
use Rattle.mp4_extract.specs.ByteStream.{byte_stream, sets_between, units_if}
use Rattle.mp4_extract.proofs.Streams.{and-true, between-more, bytes_of, none-if, stream-more}
use Rattle.mp4_extract.proofs.annex_b.AnnexB.put_sets.Goals as goal

pub loop-set-init : goal.loop-set-init
unfolding byte_stream sets_between
loop-set-init c = (nothing_added c.args.out.now.items, and-true c.args.is_first)

pub loop-set-preserved : goal.loop-set-preserved
loop-set-preserved c =
    let units = c.as_slice-set-items.result.now in
    let i = c.loop-set.set-index in
    let coding = c.args.self.now.coding in
    let x = c.set-item.result in
    let is_wanted = c.is_between-is_wanted.result in
    let before = sets_between coding c.args.from c.args.end (bytes_of (take i units)) in
    let more = between-more coding c.args.from c.args.end units i x is_wanted c.loop-set-test.true c.set-item.is
    (search rules) in (
      rw more (stream-more coding c.args.is_first before (units_if is_wanted x.bytes) c.args.out.now.items
          c.loop-set.out.items c.put_if.new.out.items c.loop-set.invariant.0
          (rw (← c.loop-set.invariant.1) (search rules))),
      rw more (search rules ∙ none-if c.args.is_first is_wanted before x.bytes),
    )
