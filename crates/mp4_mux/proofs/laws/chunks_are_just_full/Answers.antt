use Rattle.mp4_mux.proofs.SessionLaws.{session_layout}
use Rattle.mp4_mux.proofs.laws.chunks_are_just_full.Goals as goal

pub returns : goal.returns
returns c = record {
  before_end = λ s a. (session_layout s a).before_end;
  at_end = λ s e. (session_layout s e.answered).at_end e.ended;
}
