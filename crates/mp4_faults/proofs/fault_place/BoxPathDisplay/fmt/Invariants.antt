-- What was written so far.
use Rattle.std.proofs.Common.{◌++◌, flat_map, take}
use Rattle.std.specs.Fmt.{HasWritten, IsPlainFormatter}
use Rattle.std.specs.Prelude.{codes}
use Rattle.mp4_faults.specs.PathText.{step_text}
use Rattle.mp4_faults.proofs.fault_place.BoxPathDisplay.fmt.Given as goal

abbrev pub invariant-loop-step : goal.invariant-loop-step
invariant-loop-step g l =
    IsPlainFormatter l.initial.f
    → HasWritten g.W.Write.write_str_gives l.initial.f
    (flat_map (λ step. codes "/" ++ step_text step) (take l.step-index l.others)) l.f
