use Rattle.std.proofs.Common.{◌∷◌, []}
use Rattle.std.specs.Prelude.{decimal}
use Rattle.mp4_extract.proofs.Clocks.{hours_after_zero}
use Rattle.mp4_extract.proofs.Sinks.{first_front, stop_put, then_put}
use Rattle.mp4_extract.proofs.clock.put_hours.Goals as goal

pub returns-in_err-put_all : goal.returns-in_err-put_all
returns-in_err-put_all g c =
    rw (hours_after_zero c.args.hours c.if-hours-lt10.true) (stop_put _ _ _ c.from_residual.result
    c.from_residual.ensures.0 (first_front (48 ∷ []) (decimal c.args.hours) _ _ c.in_err-put_all.ensures.refused))

pub returns-then-hours-lt10 : goal.returns-then-hours-lt10
returns-then-hours-lt10 g c =
    rw (hours_after_zero c.args.hours c.if-hours-lt10.true) (then_put (48 ∷ []) (decimal c.args.hours) _ _ _
    c.put_number.result c.in_ok-put_all.ensures.ok c.put_number.ensures)
