use Rattle.mp4_codec.specs.PutLaws.{◌then◌}
use Rattle.mp4_entry.specs.Visual.{visual_entry_payload}
use Rattle.mp4_entry.proofs.visual.put_visual_entry.Goals as goal

pub returns : goal.returns
unfolding visual_entry_payload
returns g c = c.in_ok-put_visual.ensures then c.in_ok-put_box.ensures
