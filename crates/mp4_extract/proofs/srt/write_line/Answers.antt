use Rattle.std.proofs.Common.{◌∷◌, ◌++◌, []}
use Rattle.std.proofs.KnownBytes.{Appends-trans}
use Rattle.std.specs.Prelude.{codes, string_bytes}
use Rattle.mp4_extract.specs.SubtitleTexts.{line_of, lines_text, times_text}
use Rattle.mp4_extract.proofs.Sinks.{front_among, of_all, second_front, stop_put, then_put}
use Rattle.mp4_extract.proofs.srt.write_line.Goals as goal

pub returns-in_err-put_times : goal.returns-in_err-put_times
unfolding line_of
returns-in_err-put_times g c =
    let t = c.args.subtitle.now in
    let times = times_text 46 (codes " - ") t in
    let lines = lines_text (codes " ") [] (string_bytes t.text) in
    stop_put _ _ _ c.from_residual.result c.from_residual.ensures.0
    (front_among _ _ (lines ∷ codes "\n" ∷ []) times c.in_err-put_times.ensures)

pub returns-in_err-put_lines : goal.returns-in_err-put_lines
unfolding line_of
returns-in_err-put_lines g c =
    let t = c.args.subtitle.now in
    let times = times_text 46 (codes " - ") t in
    let lines = lines_text (codes " ") [] (string_bytes t.text) in
    let residual = c.from_residual-in_err-put_lines in
    stop_put _ _ _ residual.result residual.ensures.0 (front_among _ _ (codes "\n" ∷ []) (times ++ lines)
    (second_front times lines _ _ _ c.in_ok-put_times.ensures
    (rw c.as_str.ensures.value at c.in_err-put_lines.ensures)))

pub returns : goal.returns
unfolding line_of
returns g c =
    let t = c.args.subtitle.now in
    let times = times_text 46 (codes " - ") t in
    let lines = lines_text (codes " ") [] (string_bytes t.text) in
    then_put (times ++ lines) (codes "\n") _ _ _ c.put_all.result
    (Appends-trans _ _ _ times lines c.in_ok-put_times.ensures (rw c.as_str.ensures.value at c.in_ok-put_lines.ensures))
    (of_all _ _ _ _ c.put_all.ensures.ok c.put_all.ensures.refused)
