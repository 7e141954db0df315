-- What was written so far.
use Rattle.std.proofs.Common.{flat_map, take}
use Rattle.std.specs.Fmt.{HasWritten, IsPlainFormatter}
use Rattle.std.specs.Prelude.{encode_utf8}
use Rattle.mp4_faults.specs.PathText.{visible_byte}
use Rattle.mp4_faults.proofs.fault_place.TypeTextDisplay.fmt.Given as goal

abbrev pub invariant-loop-byte : goal.invariant-loop-byte
invariant-loop-byte g l =
    IsPlainFormatter l.initial.f
    → HasWritten g.W.Write.write_str_gives l.initial.f
    (flat_map (λ b. encode_utf8 (visible_byte b)) (take l.byte-index l.byte-items)) l.f
