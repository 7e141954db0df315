use Rattle.std.proofs.lemmas.Iterator.{YieldsList-from_chars}
use Rattle.std.specs.Prelude.{encode_utf8}
use Rattle.mp4_extract.specs.SubtitleTexts.{visible, visible_text}
use Rattle.mp4_extract.proofs.Parts.{parts_done, parts_more, parts_stop}
use Rattle.mp4_extract.proofs.Sinks.{stop_put}
use Rattle.mp4_extract.proofs.srt.put_characters.Goals as goal

pub returns-in_err-put_visible : goal.returns-in_err-put_visible
unfolding visible_text
returns-in_err-put_visible g c =
    stop_put _ _ _ c.from_residual.result c.from_residual.ensures.0
    (parts_stop (λ c. encode_utf8 (visible c)) _ _ c.loop-character.yielded
    (YieldsList-from_chars c.args.text.now c.utf8.text cc) _ c.loop-character.yielded_by c.loop-character.invariant _ _
    c.in-Some.character c.in-Some.is c.next.ensures.steps _ c.in_err-put_visible.ensures)

pub loop-character-preserved : goal.loop-character-preserved
loop-character-preserved g c =
    parts_more (λ x. x) (λ c. encode_utf8 (visible c)) _ _ _ c.loop-character.yielded c.in-Some.character
    c.loop-character.invariant c.in_ok-put_visible.ensures

pub returns : goal.returns
unfolding visible_text
returns g c =
    parts_done (λ c. encode_utf8 (visible c)) _ _ c.loop-character.yielded
    (YieldsList-from_chars c.args.text.now c.utf8.text cc) _ c.loop-character.yielded_by c.loop-character.invariant _ _
    c.in-None.is c.next.ensures.steps
