use Rattle.std.proofs.Common.{◌≡◌, ℕ, ◌+◌, ◌-◌, ◌*◌, ◌/◌, ◌<◌, ◌≤◌, ap, ◌∙◌, arith}
use Rattle.std.proofs.Math.Nat.{div-mul-le_self, lt-div-mul-add}
use Rattle.std.proofs.lemmas.Nat.{div-mul-add}
use Rattle.mp4_readable.specs.Clock.{parts_up}
use Rattle.mp4_readable.proofs.clock.shown_ticks_come_back.Goals as goal

pub returns : goal.returns
returns c ticks timescale second some enough =
    let whole = ticks * second + (timescale - 1) in
    let back = parts_up ticks timescale second * timescale in
    let most : back ≤ whole = div-mul-le_self whole timescale in
    let least : whole < back + timescale = lt-div-mul-add some in
    let rest : back ≡ ticks * second + (back - ticks * second) = omega (arith, most, least, some) in
    let few : back - ticks * second < second = omega (arith, most, least, some, enough) in
    ap (λ n. n / second) rest ∙ div-mul-add ticks second (back - ticks * second) few
