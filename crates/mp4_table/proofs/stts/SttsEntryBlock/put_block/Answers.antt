use Rattle.mp4_codec.specs.PutLaws.{◌then◌}
use Rattle.mp4_table.specs.Stts.{stts_entry}
use Rattle.mp4_table.proofs.stts.SttsEntryBlock.put_block.Goals as goal

pub returns : goal.returns
unfolding stts_entry
returns c = c.in_ok-put_u32.ensures then c.in_ok-put_u32-2.ensures
