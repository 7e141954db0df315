use Rattle.std.proofs.Common.{rules}
use Rattle.mp4_codec.specs.Bytes.{number, ◌⧺◌}
use Rattle.mp4_mux.specs.Mdat.{mdat_header_of}
use Rattle.mp4_mux.proofs.mdat.mdat_header.Goals as goal

pub returns-then-n : goal.returns-then-n
unfolding mdat_header_of number ◌⧺◌
returns-then-n c = search rules

pub returns : goal.returns
unfolding mdat_header_of number ◌⧺◌
returns c = search rules
