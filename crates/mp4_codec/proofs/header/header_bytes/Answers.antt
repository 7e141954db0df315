use Rattle.std.proofs.Common.{rules}
use Rattle.mp4_codec.specs.Bytes.{number, ◌⧺◌}
use Rattle.mp4_codec.proofs.header.header_bytes.Goals as goal

pub returns : goal.returns
unfolding number ◌⧺◌
returns c = search rules
