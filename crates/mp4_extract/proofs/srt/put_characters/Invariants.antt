use Rattle.std.proofs.Common.{flat_map}
use Rattle.std.specs.Io.KnownBytes.{Appends}
use Rattle.std.specs.Prelude.{map, encode_utf8}
use Rattle.mp4_extract.specs.SubtitleTexts.{visible}
use Rattle.mp4_extract.proofs.srt.put_characters.Given as goal

abbrev pub invariant-loop-character : goal.invariant-loop-character
invariant-loop-character g l =
    Appends (g.W.Write.contents l.fn.out) (g.W.Write.contents l.out)
    (flat_map (λ c. encode_utf8 (visible c)) (map (λ x. x) l.yielded))
