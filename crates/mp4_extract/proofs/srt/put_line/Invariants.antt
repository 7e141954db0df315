use Rattle.std.proofs.Common.{flat_map}
use Rattle.std.specs.Io.KnownBytes.{Appends}
use Rattle.std.specs.Prelude.{map}
use Rattle.mp4_extract.specs.SubtitleTexts.{part_text}
use Rattle.mp4_extract.proofs.srt.put_line.Given as goal

abbrev pub invariant-loop-part : goal.invariant-loop-part
invariant-loop-part g l =
    Appends (g.W.Write.contents l.fn.out) (g.W.Write.contents l.out)
    (flat_map (part_text l.before l.after) (map (λ x. x.now) l.yielded))
