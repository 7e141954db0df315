use Rattle.mp4_codec.specs.WriteLaws.{is_written}
use Rattle.mp4_mux.proofs.ending.put_owned.Goals as goal

pub put_box-requires : goal.put_box-requires
put_box-requires g c = (is_written _ _ c.requires).small
