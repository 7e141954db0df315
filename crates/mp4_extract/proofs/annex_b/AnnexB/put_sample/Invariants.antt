use Rattle.std.proofs.Common.{length}
use Rattle.mp4_extract.proofs.Turning.{IsTurned}
use Rattle.mp4_extract.proofs.annex_b.AnnexB.put_sample.Given as goal

abbrev pub invariant-loop-fields : goal.invariant-loop-fields
invariant-loop-fields l =
    IsTurned l.self l.sample l.fields l.fn.out.items l.out.items l.progress.is_first l.progress.kinds

abbrev pub decreases-loop-fields : goal.decreases-loop-fields
decreases-loop-fields l = length l.fields
