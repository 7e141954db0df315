use Rattle.std.proofs.Common.{length}
use Rattle.std.specs.Option.{option_map}
use Rattle.mp4_codec.proofs.GatherLoop.{Gathering}
use Rattle.mp4_codec.specs.Children.{fault_in, last_of}
use Rattle.mp4_entry.specs.Mp4a.{as_it_is}
use Rattle.mp4_entry.proofs.mp4a.last_payload.Given as goal

abbrev pub invariant-loop-child : goal.invariant-loop-child
invariant-loop-child l =
    Gathering (fault_in l.kind as_it_is) (last_of l.kind as_it_is) (option_map (λ x. x.now) l.last) l.children l.bytes

abbrev pub decreases-loop-child : goal.decreases-loop-child
decreases-loop-child l = length l.children
