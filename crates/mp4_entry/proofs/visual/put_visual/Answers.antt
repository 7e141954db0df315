use Rattle.mp4_codec.specs.PutLaws.{◌then◌}
use Rattle.mp4_entry.specs.Visual.{visual}
use Rattle.mp4_entry.proofs.visual.put_visual.Goals as goal

pub returns : goal.returns
unfolding visual
returns c =
    c.in_ok-put_zeros.ensures
    then c.in_ok-put_u16.ensures
    then c.in_ok-put_zeros-2.ensures
    then c.in_ok-put_u16-2.ensures
    then c.in_ok-put_u16-3.ensures
    then c.in_ok-put_u32.ensures
    then c.in_ok-put_u32-2.ensures
    then c.in_ok-put_zeros-3.ensures
    then c.in_ok-put_u16-4.ensures
    then c.in_ok-put_zeros-4.ensures
    then c.in_ok-put_u16-5.ensures
    then c.in_ok-put_u16-6.ensures
