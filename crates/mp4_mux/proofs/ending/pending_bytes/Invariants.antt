use Rattle.std.proofs.Common.{◌≡◌, take}
use Rattle.mp4_mux.specs.Parts.{unwritten}
use Rattle.mp4_mux.proofs.ending.pending_bytes.Given as goal

abbrev pub invariant-loop-i : goal.invariant-loop-i
invariant-loop-i l = l.bytes.items ≡ unwritten (take l.i l.tracks)
