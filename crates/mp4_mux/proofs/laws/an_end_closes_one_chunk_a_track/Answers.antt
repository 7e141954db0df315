use Rattle.std.proofs.Common.{refl}
use Rattle.mp4_mux.proofs.EndedStates.{accepted-end}
use Rattle.mp4_mux.proofs.LastChunkLaws.{last_chunks-pending, last_chunks-once, last_chunks-ordered}
use Rattle.mp4_mux.proofs.laws.an_end_closes_one_chunk_a_track.Goals as goal

pub returns : goal.returns
returns c = record {
  after = λ st. refl;
  pending = last_chunks-pending;
  once = λ ts id. last_chunks-once id ts;
  order = last_chunks-ordered 1;
  accepted = accepted-end;
}
