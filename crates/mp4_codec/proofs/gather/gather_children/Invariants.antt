use Rattle.std.proofs.Common.{length}
use Rattle.mp4_codec.proofs.GatherLoop.{Gathering}
use Rattle.mp4_codec.proofs.EarlyGathering.{EarlyGathering}
use Rattle.mp4_codec.proofs.gather.gather_children.Given as goal

abbrev pub invariant-loop-parts : goal.invariant-loop-parts
invariant-loop-parts g l = record {
  given : Gathering g.G.Gather.fault g.G.Gather.taken l.parts l.children l.payload;
  early : EarlyGathering g.G.Gather.early l.children l.payload;
}

abbrev pub decreases-loop-parts : goal.decreases-loop-parts
decreases-loop-parts g l = length l.children
