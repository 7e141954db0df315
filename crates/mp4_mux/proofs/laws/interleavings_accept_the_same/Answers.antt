use Rattle.mp4_mux.proofs.SessionLaws.{session_holds, sessions_agree, sessions_hold_the_same}
use Rattle.mp4_mux.proofs.EndedSessionLaws.{sessions_read_the_same}
use Rattle.mp4_mux.proofs.laws.interleavings_accept_the_same.Goals as goal

pub returns : goal.returns
returns c = record {
  accepted = sessions_agree;
  samples = session_holds;
  same = sessions_hold_the_same;
  read =
      sessions_read_the_same;
}
