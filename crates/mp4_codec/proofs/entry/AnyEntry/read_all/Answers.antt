use Rattle.mp4_codec.specs.Blocks.{list_at-blocks}
use Rattle.mp4_codec.proofs.entry.AnyEntry.read_all.Goals as goal

pub returns : goal.returns
returns g c =
    rw (list_at-blocks g.T.Block.at g.T.Block.SIZE g.T.Block.in_block g.met.T.Block.is_block c.args.count
    c.args.fields.now c.requires) c.read_blocks.ensures
