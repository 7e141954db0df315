use Rattle.std.proofs.Common.{sym, ◌∙◌}
use Rattle.mp4_media.proofs.WritingToSinks.{counted_whole, known_whole, only_state}
use Rattle.mp4_media.proofs.laws.known_sinks_have_their_states_bytes.Goals as goal

pub returns : goal.returns
returns c = record {
  bytes = known_whole;
  len = counted_whole;
  one = λ w one other bytes h also known. sym (only_state w bytes known one h) ∙ only_state w bytes known other also;
}
