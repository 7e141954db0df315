use Rattle.std.proofs.Common.{rules}
use Rattle.mp4_codec.specs.PutLaws.{◌then◌, int32_piece}
use Rattle.mp4_table.specs.Ctts.{ctts_entry}
use Rattle.mp4_table.proofs.ctts.CttsEntryBlock.put_block.Goals as goal

pub returns : goal.returns
unfolding ctts_entry
returns c = c.in_ok-put_u32.ensures then int32_piece c.args.self.sample_offset (search rules) c.in_ok-put_i32.ensures
