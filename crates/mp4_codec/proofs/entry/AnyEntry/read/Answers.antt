use Rattle.mp4_codec.proofs.entry.AnyEntry.read.Goals as goal

pub returns : goal.returns
returns g c = rw (g.met.T.Block.is_block.is c.args.fields.now) c.read_block.ensures
