use Rattle.std.proofs.Common.{◌≡◌, ◌<◌, ◌*◌, ◌-◌, ◌^◌, take, min}
use Rattle.std.specs.List.{sum_by, All}
use Rattle.mp4_search.specs.Sums.{SumsBefore64}
use Rattle.mp4_lookup.proofs.index.times_before.Given as goal

abbrev pub invariant-loop-run : goal.invariant-loop-run
invariant-loop-run l = record {
  so_far : SumsBefore64 (λ r. r.sample_count * r.sample_delta) (take l.run-index l.runs) l.times.items;
  time : l.time ≡ min (2 ^ 64 - 1) (sum_by (λ r. r.sample_count * r.sample_delta) (take l.run-index l.runs));
  small : All (λ r. r.sample_delta < 2 ^ 32) (take l.run-index l.runs);
}
