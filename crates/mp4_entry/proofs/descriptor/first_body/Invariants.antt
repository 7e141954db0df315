use Rattle.std.proofs.Common.{◌≡◌, length}
use Rattle.mp4_entry.specs.Descriptor.{first_of}
use Rattle.mp4_entry.proofs.descriptor.first_body.Given as goal

abbrev pub invariant-loop-other : goal.invariant-loop-other
invariant-loop-other l = first_of l.tag l.rest ≡ first_of l.tag l.bytes

abbrev pub decreases-loop-other : goal.decreases-loop-other
decreases-loop-other l = length l.rest
