-- The writer has the tracks that were passed over.
use Rattle.std.proofs.Common.{take}
use Rattle.mp4_c.specs.Written.{HasTracks, Leads}
use Rattle.mp4_c.proofs.written.add_tracks.Given as goal

abbrev pub invariant-loop-k : goal.invariant-loop-k
invariant-loop-k g l = Leads (HasTracks l.source (take l.k l.tracks)) l.initial.writer l.writer
