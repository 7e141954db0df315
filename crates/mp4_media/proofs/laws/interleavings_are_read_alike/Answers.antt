use Rattle.std.proofs.Common.{sym, ◌∙◌}
use Rattle.mp4_media.proofs.laws.interleavings_are_read_alike.Goals as goal

pub returns : goal.returns
returns c = record {
  samples = λ one other accepted is too id k small. is.samples id k small ∙ sym (too.samples id k small);
  counts = λ one other accepted is too id. is.counts id ∙ sym (too.counts id);
}
