use Rattle.std.proofs.Common.{rules}
use Rattle.mp4_extract.specs.NalUnits.{kinds_before}
use Rattle.mp4_extract.specs.ByteStream.{sets_between, sets_of}
use Rattle.mp4_extract.proofs.Streams.{none_between, stream-more_one, stream-one}
use Rattle.mp4_extract.proofs.annex_b.AnnexB.put_next.Goals as goal

pub returns-then-needed-progress : goal.returns-then-needed-progress
returns-then-needed-progress c =
    let stream = c.args.self.now in
    rw (
      none_between stream.coding c.args.progress.kinds (kinds_before stream.coding c.args.unit.now) (sets_of stream)
          (search rules),
      stream-one,
    ) (search rules)

pub returns : goal.returns
returns c =
    let stream = c.args.self.now in
    stream-more_one stream.coding c.args.progress.is_first
    (sets_between stream.coding c.args.progress.kinds (kinds_before stream.coding c.args.unit.now) (sets_of stream))
    c.args.unit.now c.args.out.now.items c.put_sets.new.out.items c.put_unit-2.new.out.items
    (search rules) (search rules)
