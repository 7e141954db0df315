use Rattle.mp4_mux.specs.Calls.{Session}
use Rattle.mp4_mux.proofs.SessionLaws.{session_accepts, session_sound, session_keeps}
use Rattle.mp4_mux.proofs.laws.calls_accept_their_samples.Goals as goal

pub returns : goal.returns
returns c = record {
  accepted = session_accepts;
  sound = session_sound;
  front = λ (s : Session). (session_keeps s).front;
  config = λ (s : Session). (session_keeps s).config;
}
