use Rattle.std.proofs.Common.{◌≡◌, ◌-◌, ◌+◌, ◌∙◌, ap, arith}
use Rattle.mp4_fragments.specs.ByTime.{begin_of}
use Rattle.mp4_fragments.specs.Index.{run_at, runs_of}
use Rattle.mp4_fragments.specs.declared.index.RunIndex.{RunIndex}
use Rattle.mp4_fragments.proofs.Decoding.{begin_kept, begins_none, none_kept}
use Rattle.mp4_fragments.proofs.times.times_of.Goals as goal

pub loop-from_last-init : goal.loop-from_last-init
loop-from_last-init c =
    let index = c.args.index.now in
    let runs = runs_of c.args.trafs.now c.args.track index in
    let all : c.runs_below-runs.result - 0 ≡ c.runs_below-runs.result = omega arith in
    rw (all, c.in_ok-latest_first.ensures.items) (none_kept (begin_of runs c.args.end) c.runs_below-runs.result (λ r h.
    begins_none (run_at c.args.trafs.now c.args.track) runs index c.args.end c.runs_below-runs.result r c.requires
    c.runs_below-runs.ensures.past h))

pub loop-from_last-preserved : goal.loop-from_last-preserved
loop-from_last-preserved c =
    let index = c.args.index.now in
    let runs = runs_of c.args.trafs.now c.args.track index in
    let below = c.runs_below-runs in
    let at = below.result - 1 - c.loop-from_last.from_last in
    let entries : c.as_slice-entries.result.now ≡ index.entries =
    c.as_slice-entries.ensures ∙ ap (λ (x : RunIndex). x.entries) below.ensures.kept in
    let before : at + 1 ≡ below.result - c.loop-from_last.from_last = omega arith in
    let after : at ≡ below.result - (c.loop-from_last.from_last + 1) = omega arith in
    rw (← after) (c.in_ok-earliest.ensures (begin_of runs c.args.end) at (rw before c.loop-from_last.invariant)
    (begin_kept (run_at c.args.trafs.now c.args.track) c.as_slice-entries.result.now runs index c.args.end at
    c.index-entries-runs.result c.begin_of-begin.result c.requires entries c.index-entries-runs.is
    (omega (arith, below.ensures.within)) (below.ensures.below at (omega arith)) c.begin_of-begin.ensures))

pub returns-clause-earliest : goal.returns-clause-earliest
returns-clause-earliest c =
    let none : c.runs_below-runs.result - c.loop-from_last.from_last ≡ 0 = omega arith in
    (rw none at c.loop-from_last.invariant).kept
