use Rattle.mp4_mux.proofs.EndedSessionLaws.{session_written}
use Rattle.mp4_mux.proofs.ByteLaws.{each_byte}
use Rattle.mp4_mux.proofs.laws.an_end_writes_the_accepted_samples.Goals as goal

pub returns : goal.returns
returns c = record { written = session_written; each_byte = each_byte }
