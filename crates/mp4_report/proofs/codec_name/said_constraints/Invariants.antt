-- The zeros at the end that were passed over aren't said.
use Rattle.std.proofs.Common.{◌≡◌, ◌≤◌, length, take}
use Rattle.mp4_report.specs.CodecNames.{without_end_zeros}
use Rattle.mp4_report.proofs.codec_name.said_constraints.Given as goal

abbrev pub invariant-loop-count : goal.invariant-loop-count
invariant-loop-count l = record {
  within : l.count ≤ length l.constraints;
  said : without_end_zeros (take l.count l.constraints) ≡ without_end_zeros l.constraints;
}

abbrev pub decreases-loop-count : goal.decreases-loop-count
decreases-loop-count l = l.count
