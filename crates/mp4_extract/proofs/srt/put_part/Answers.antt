use Rattle.std.proofs.Common.{◌∷◌, ◌++◌, [], ◌∙◌, sym}
use Rattle.std.proofs.KnownBytes.{Appends-trans}
use Rattle.mp4_extract.specs.SubtitleTexts.{visible_text}
use Rattle.mp4_extract.proofs.Sinks.{front_among, of_all, second_front, stop_put, then_put}
use Rattle.mp4_extract.proofs.SubtitleLaws.{written_part}
use Rattle.mp4_extract.proofs.srt.put_part.Goals as goal

pub returns-in_err-put_all : goal.returns-in_err-put_all
returns-in_err-put_all g c =
    let some = rw c.trim.ensures.trim at (sym c.is_empty.ensures ∙ c.if-is_empty.false) in
    rw (written_part c.args.before.now c.args.after.now c.args.part.now some) (stop_put _ _ _ c.from_residual.result
    c.from_residual.ensures.0 (front_among _ _ (visible_text c.args.part.now ∷ c.args.after.now ∷ [])
    c.args.before.now c.in_err-put_all.ensures.refused))

pub returns-in_err-put_characters : goal.returns-in_err-put_characters
returns-in_err-put_characters g c =
    let some = rw c.trim.ensures.trim at (sym c.is_empty.ensures ∙ c.if-is_empty.false) in
    let residual = c.from_residual-in_err-put_characters in
    rw (written_part c.args.before.now c.args.after.now c.args.part.now some) (stop_put _ _ _ residual.result
    residual.ensures.0 (front_among _ _ (c.args.after.now ∷ []) (c.args.before.now ++ visible_text c.args.part.now)
    (second_front c.args.before.now _ _ _ _ c.in_ok-put_all.ensures.ok c.in_err-put_characters.ensures)))

pub returns : goal.returns
returns g c =
    let some = rw c.trim.ensures.trim at (sym c.is_empty.ensures ∙ c.if-is_empty.false) in
    let last = of_all _ _ _ _ c.put_all-2.ensures.ok c.put_all-2.ensures.refused in
    rw (written_part c.args.before.now c.args.after.now c.args.part.now some)
    (then_put (c.args.before.now ++ visible_text c.args.part.now) _ _ _ _ c.put_all-2.result
    (Appends-trans _ _ _ c.args.before.now _ c.in_ok-put_all.ensures.ok c.in_ok-put_characters.ensures) last)
