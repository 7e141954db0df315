use Rattle.mp4_codec.specs.PutLaws.{◌then◌}
use Rattle.mp4_table.specs.Stsc.{stsc_entry}
use Rattle.mp4_table.proofs.stsc.StscEntryBlock.put_block.Goals as goal

pub returns : goal.returns
unfolding stsc_entry
returns c = c.in_ok-put_u32.ensures then c.in_ok-put_u32-2.ensures then c.in_ok-put_u32-3.ensures
