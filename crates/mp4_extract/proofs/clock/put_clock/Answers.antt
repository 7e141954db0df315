use Rattle.std.proofs.Common.{◌/◌}
use Rattle.mp4_extract.specs.SubtitleTexts.{clock_of, hours_of}
use Rattle.mp4_extract.proofs.Sinks.{first_front, of_all, stop_put, then_put}
use Rattle.mp4_extract.proofs.clock.put_clock.Goals as goal

pub returns-in_err-put_hours : goal.returns-in_err-put_hours
unfolding clock_of
returns-in_err-put_hours g c =
    stop_put _ _ _ c.from_residual.result c.from_residual.ensures.0
    (first_front (hours_of (c.args.time / 3600000)) _ _ _ c.in_err-put_hours.ensures)

pub returns : goal.returns
unfolding clock_of
returns g c =
    let put = of_all _ _ _ _ c.put_all.ensures.ok c.put_all.ensures.refused in
    then_put (hours_of (c.args.time / 3600000)) _ _ _ _ c.put_all.result c.in_ok-put_hours.ensures
    (rw (
      c.last_digit.ensures,
      c.last_digit-2.ensures,
      c.last_digit-3.ensures,
      c.last_digit-4.ensures,
      c.last_digit-5.ensures,
      c.last_digit-6.ensures,
      c.last_digit-7.ensures,
    ) at put)
