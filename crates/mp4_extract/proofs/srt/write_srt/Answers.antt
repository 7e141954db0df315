use Rattle.std.proofs.Common.{◌∷◌, ◌++◌, []}
use Rattle.std.proofs.KnownBytes.{Appends-trans}
use Rattle.std.specs.Prelude.{codes, decimal, string_bytes}
use Rattle.mp4_extract.specs.SubtitleTexts.{lines_text, srt_of, times_text}
use Rattle.mp4_extract.proofs.Sinks.{front_among, of_all, second_front, stop_put, then_put}
use Rattle.mp4_extract.proofs.srt.write_srt.Goals as goal

pub returns-in_err-put_number : goal.returns-in_err-put_number
unfolding srt_of
returns-in_err-put_number g c =
    let t = c.args.subtitle.now in
    let times = times_text 44 (codes " --> ") t in
    let lines = lines_text [] (codes "\n") (string_bytes t.text) in
    stop_put _ _ _ c.from_residual.result c.from_residual.ensures.0
    (front_among _ _ (codes "\n" ∷ times ∷ codes "\n" ∷ lines ∷ codes "\n" ∷ []) (decimal c.args.number)
    c.in_err-put_number.ensures)

pub returns-in_err-put_all : goal.returns-in_err-put_all
unfolding srt_of
returns-in_err-put_all g c =
    let t = c.args.subtitle.now in
    let number = decimal c.args.number in
    let times = times_text 44 (codes " --> ") t in
    let lines = lines_text [] (codes "\n") (string_bytes t.text) in
    let residual = c.from_residual-in_err-put_all in
    stop_put _ _ _ residual.result residual.ensures.0
    (front_among _ _ (times ∷ codes "\n" ∷ lines ∷ codes "\n" ∷ []) (number ++ codes "\n")
    (second_front number (codes "\n") _ _ _ c.in_ok-put_number.ensures c.in_err-put_all.ensures.refused))

pub returns-in_err-put_times : goal.returns-in_err-put_times
unfolding srt_of
returns-in_err-put_times g c =
    let t = c.args.subtitle.now in
    let number = decimal c.args.number in
    let times = times_text 44 (codes " --> ") t in
    let lines = lines_text [] (codes "\n") (string_bytes t.text) in
    let residual = c.from_residual-in_err-put_times in
    stop_put _ _ _ residual.result residual.ensures.0
    (front_among _ _ (codes "\n" ∷ lines ∷ codes "\n" ∷ []) (number ++ codes "\n" ++ times)
    (second_front (number ++ codes "\n") times _ _ _
    (Appends-trans _ _ _ number (codes "\n") c.in_ok-put_number.ensures c.in_ok-put_all.ensures.ok)
    c.in_err-put_times.ensures))

pub returns-in_err-put_all-2 : goal.returns-in_err-put_all-2
unfolding srt_of
returns-in_err-put_all-2 g c =
    let t = c.args.subtitle.now in
    let number = decimal c.args.number in
    let times = times_text 44 (codes " --> ") t in
    let lines = lines_text [] (codes "\n") (string_bytes t.text) in
    let residual = c.from_residual-in_err-put_all-2 in
    stop_put _ _ _ residual.result residual.ensures.0
    (front_among _ _ (lines ∷ codes "\n" ∷ []) (number ++ codes "\n" ++ times ++ codes "\n")
    (second_front (number ++ codes "\n" ++ times) (codes "\n") _ _ _
    (Appends-trans _ _ _ (number ++ codes "\n") times
    (Appends-trans _ _ _ number (codes "\n") c.in_ok-put_number.ensures c.in_ok-put_all.ensures.ok)
    c.in_ok-put_times.ensures) c.in_err-put_all-2.ensures.refused))

pub returns-in_err-put_lines : goal.returns-in_err-put_lines
unfolding srt_of
returns-in_err-put_lines g c =
    let t = c.args.subtitle.now in
    let number = decimal c.args.number in
    let times = times_text 44 (codes " --> ") t in
    let lines = lines_text [] (codes "\n") (string_bytes t.text) in
    let residual = c.from_residual-in_err-put_lines in
    stop_put _ _ _ residual.result residual.ensures.0
    (front_among _ _ (codes "\n" ∷ []) (number ++ codes "\n" ++ times ++ codes "\n" ++ lines)
    (second_front (number ++ codes "\n" ++ times ++ codes "\n") lines _ _ _
    (Appends-trans _ _ _ (number ++ codes "\n" ++ times) (codes "\n")
    (Appends-trans _ _ _ (number ++ codes "\n") times
    (Appends-trans _ _ _ number (codes "\n") c.in_ok-put_number.ensures c.in_ok-put_all.ensures.ok)
    c.in_ok-put_times.ensures) c.in_ok-put_all-2.ensures.ok)
    (rw c.as_str.ensures.value at c.in_err-put_lines.ensures)))

pub returns : goal.returns
unfolding srt_of
returns g c =
    let t = c.args.subtitle.now in
    let number = decimal c.args.number in
    let times = times_text 44 (codes " --> ") t in
    let lines = lines_text [] (codes "\n") (string_bytes t.text) in
    then_put (number ++ codes "\n" ++ times ++ codes "\n" ++ lines) (codes "\n") _ _ _ c.put_all-3.result
    (Appends-trans _ _ _ (number ++ codes "\n" ++ times ++ codes "\n") lines
    (Appends-trans _ _ _ (number ++ codes "\n" ++ times) (codes "\n")
    (Appends-trans _ _ _ (number ++ codes "\n") times
    (Appends-trans _ _ _ number (codes "\n") c.in_ok-put_number.ensures c.in_ok-put_all.ensures.ok)
    c.in_ok-put_times.ensures) c.in_ok-put_all-2.ensures.ok)
    (rw c.as_str.ensures.value at c.in_ok-put_lines.ensures))
    (of_all _ _ _ _ c.put_all-3.ensures.ok c.put_all-3.ensures.refused)
