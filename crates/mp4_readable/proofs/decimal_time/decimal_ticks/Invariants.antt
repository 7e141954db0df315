use Rattle.std.proofs.Common.{◌≡◌, ◌≤◌, ℕ, ◌+◌, ◌-◌, ◌*◌, ◌<◌, length, drop}
use Rattle.mp4_readable.specs.DecimalTime.{decimal_ticks}
use Rattle.mp4_readable.proofs.decimal_time.decimal_ticks.Given as goal

-- the ticks are those of the last digits, of which so many were seen, and fewer than a second has, or none
abbrev pub invariant-loop-i : goal.invariant-loop-i
invariant-loop-i l = record {
  counted : l.ticks ≡ decimal_ticks (drop (l.count - l.i) l.digits) l.timescale;
  few : l.ticks ≤ l.timescale;
}
