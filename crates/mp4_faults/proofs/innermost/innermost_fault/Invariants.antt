use Rattle.std.proofs.Common.{◌≡◌, ◌≤◌, Some, length}
use Rattle.mp4_codec.specs.Cause.{Cause}
use Rattle.mp4_faults.specs.Inner.{inner, end_of}
use Rattle.mp4_faults.specs.Refusal.{payload_fault}
use Rattle.mp4_faults.proofs.Refused.{LedTo}
use Rattle.mp4_faults.proofs.innermost.innermost_fault.Given as goal

-- The path so far leads to the box.
abbrev pub invariant-loop-step : goal.invariant-loop-step
invariant-loop-step l = record {
  led : (c : Cause) → payload_fault l.fn.outermost.name l.fn.outermost.payload.now ≡ Some c
      → LedTo c (inner l.fn.outermost) (inner l.at) l.fn.path l.path;
  within : end_of (inner l.at) ≤ end_of (inner l.fn.outermost);
}

abbrev pub decreases-loop-step : goal.decreases-loop-step
decreases-loop-step l = length l.at.payload.now
