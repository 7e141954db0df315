use Rattle.std.proofs.Common.{refl}
use Rattle.mp4_mux.specs.SampleColumns.{infos_of}
use Rattle.mp4_mux.proofs.sample_infos.SampleInfos.new.Goals as goal

pub returns : goal.returns
unfolding infos_of
returns c = rw c.new.ensures refl
