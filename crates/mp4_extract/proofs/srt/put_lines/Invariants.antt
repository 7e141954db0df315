use Rattle.std.proofs.Common.{flat_map}
use Rattle.std.specs.Io.KnownBytes.{Appends}
use Rattle.std.specs.Prelude.{map}
use Rattle.mp4_extract.specs.SubtitleTexts.{line_text}
use Rattle.mp4_extract.proofs.srt.put_lines.Given as goal

abbrev pub invariant-loop-line : goal.invariant-loop-line
invariant-loop-line g l =
    Appends (g.W.Write.contents l.fn.out) (g.W.Write.contents l.out)
    (flat_map (line_text l.before l.after) (map (λ x. x.now) l.yielded))
