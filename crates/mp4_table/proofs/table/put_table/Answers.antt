use Rattle.mp4_codec.specs.PutLaws.{◌then◌}
use Rattle.mp4_table.specs.Table.{table}
use Rattle.mp4_table.proofs.table.put_table.Goals as goal

pub returns : goal.returns
unfolding table
returns g c =
    c.in_ok-put_u8.ensures
    then c.in_ok-put_u24.ensures
    then c.in_ok-put_u32.ensures
    then c.in_ok-put_list.ensures
