use Rattle.std.proofs.Common.{◌≡◌, ◌+◌, ◌-◌, ◌^◌}
use Rattle.mp4_lookup.specs.InOrder.{answers_from, samples_left}
use Rattle.mp4_extract.specs.Neighbours.{AreNeighbours}
use Rattle.mp4_extract.proofs.ReadTogether.{places_of}
use Rattle.mp4_extract.proofs.neighbours.neighbours_from.Given as goal

abbrev pub invariant-loop-count : goal.invariant-loop-count
invariant-loop-count l = record {
  left : samples_left l.samples ≡ answers_from (2 ^ 32 - (l.k + l.count)) l.track (l.k + l.count);
  until : AreNeighbours (places_of l.track) l.k l.offset l.count l.size;
}
