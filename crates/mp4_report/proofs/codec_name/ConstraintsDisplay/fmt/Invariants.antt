-- What was written so far.
use Rattle.std.proofs.Common.{ℕ, ◌++◌, take, codes, true}
use Rattle.std.specs.Fmt.{HasWritten, IsPlainFormatter, digits}
use Rattle.std.specs.List.{flat_map}
use Rattle.mp4_report.proofs.codec_name.ConstraintsDisplay.fmt.Given as goal

abbrev pub invariant-loop-constraint : goal.invariant-loop-constraint
invariant-loop-constraint g l =
    IsPlainFormatter l.initial.f
    → HasWritten g.W.Write.write_str_gives l.initial.f
    (flat_map (λ (n : ℕ). codes "." ++ digits 16 true n) (take l.constraint-index l.constraint-items)) l.f
