use Rattle.mp4_entry.specs.Descriptor.{length_at}
use Rattle.mp4_entry.proofs.Lengths.{Reading}
use Rattle.mp4_entry.proofs.descriptor.Padded.length.Given as goal

abbrev pub invariant-loop : goal.invariant-loop
invariant-loop l = Reading (length_at 4 0 l.fn.self) l.counter l.length l.self
