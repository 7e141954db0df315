use Rattle.std.proofs.Common.{◌++◌, ◌∷◌, []}
use Rattle.std.proofs.KnownBytes.{Appends-trans}
use Rattle.mp4_extract.specs.SubtitleTexts.{clock_of, times_text}
use Rattle.mp4_extract.proofs.Sinks.{front_among, second_front, stop_put, then_put}
use Rattle.mp4_extract.proofs.clock.put_times.Goals as goal

pub returns-in_err-put_clock : goal.returns-in_err-put_clock
unfolding times_text
returns-in_err-put_clock g c =
    let from = clock_of c.args.mark c.args.subtitle.now.from in
    let to = clock_of c.args.mark c.args.subtitle.now.to in
    stop_put _ _ _ c.from_residual.result c.from_residual.ensures.0
    (front_among _ _ (c.args.between.now ∷ to ∷ []) from c.in_err-put_clock.ensures)

pub returns-in_err-put_all : goal.returns-in_err-put_all
unfolding times_text
returns-in_err-put_all g c =
    let from = clock_of c.args.mark c.args.subtitle.now.from in
    let to = clock_of c.args.mark c.args.subtitle.now.to in
    let residual = c.from_residual-in_err-put_all in
    stop_put _ _ _ residual.result residual.ensures.0 (front_among _ _ (to ∷ []) (from ++ c.args.between.now)
    (second_front from _ _ _ _ c.in_ok-put_clock.ensures c.in_err-put_all.ensures.refused))

pub returns : goal.returns
unfolding times_text
returns g c =
    let from = clock_of c.args.mark c.args.subtitle.now.from in
    then_put (from ++ c.args.between.now) _ _ _ _ c.put_clock-2.result
    (Appends-trans _ _ _ from c.args.between.now c.in_ok-put_clock.ensures c.in_ok-put_all.ensures.ok)
    c.put_clock-2.ensures
