use Rattle.std.proofs.Common.{◌-◌}
use Rattle.mp4_fragments.specs.ByTime.{AreKept, begin_of}
use Rattle.mp4_fragments.specs.Index.{runs_of}
use Rattle.mp4_fragments.proofs.times.times_of.Given as goal

abbrev pub invariant-loop-from_last : goal.invariant-loop-from_last
invariant-loop-from_last l = AreKept (begin_of (runs_of l.trafs l.track l.fn.index) l.end) (l.runs - l.from_last)
    l.latest_first.items l.earliest
