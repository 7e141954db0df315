use Rattle.std.proofs.Common.{◌≡◌, ◌+◌, ◌-◌, ◌*◌, ◌^◌, ◌≤◌, take}
use Rattle.std.specs.List.{sum_by}
use Rattle.mp4_table.specs.declared.stts.SttsEntry.{SttsEntry}
use Rattle.mp4_lookup.proofs.timing.end_after.Given as goal

-- so many samples come before this run; they have lasted so long, each at most as long as 32 bits say
abbrev pub invariant-loop-run : goal.invariant-loop-run
invariant-loop-run l = record {
  counted : l.left + sum_by (λ (r : SttsEntry). r.sample_count) (take l.run-index l.runs) ≡ l.count;
  lasted : l.end ≡ sum_by (λ (r : SttsEntry). r.sample_count * r.sample_delta) (take l.run-index l.runs);
  fits : l.end ≤ (l.count - l.left) * (2 ^ 32 - 1);
}
