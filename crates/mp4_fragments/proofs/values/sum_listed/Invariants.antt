use Rattle.std.proofs.Common.{◌≡◌, ◌-◌, ◌*◌, ◌^◌, ◌≤◌, sum, take}
use Rattle.mp4_fragments.proofs.values.sum_listed.Given as goal

abbrev pub invariant-loop-value : goal.invariant-loop-value
invariant-loop-value l = record {
  sum : l.total ≡ sum (take l.value-index l.values);
  few : l.total ≤ l.value-index * (2 ^ 32 - 1);
}
