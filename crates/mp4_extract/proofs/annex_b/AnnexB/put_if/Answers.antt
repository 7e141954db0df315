use Rattle.mp4_codec.specs.PutLaws.{nothing_added}
use Rattle.mp4_extract.specs.ByteStream.{byte_stream}
use Rattle.mp4_extract.proofs.Streams.{stream-one}
use Rattle.mp4_extract.proofs.annex_b.AnnexB.put_if.Goals as goal

pub returns-then-is_wanted-clause-units : goal.returns-then-is_wanted-clause-units
returns-then-is_wanted-clause-units c = rw (c.if-is_wanted.true, stream-one) c.in_ok-put_unit.ensures

pub returns-clause-units : goal.returns-clause-units
unfolding byte_stream
returns-clause-units c = rw c.if-is_wanted.false (nothing_added c.args.out.now.items)
