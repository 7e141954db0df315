use Rattle.std.proofs.Common.{◌≡◌, ◌≤◌, ◌<◌, ◌*◌, ◌-◌, ◌^◌, length, take}
use Rattle.std.specs.Prelude.{vec_len, vec_capacity}
use Rattle.std.specs.List.{sum_by, All}
use Rattle.mp4_search.specs.Sums.{SumsBefore64}
use Rattle.mp4_lookup.proofs.index.sizes_before.Given as goal

abbrev pub invariant-loop-size : goal.invariant-loop-size
invariant-loop-size l = record {
  so_far : SumsBefore64 (λ s. s) (take l.size-index l.sizes) l.sums.items;
  total : l.total ≡ sum_by (λ s. s) (take l.size-index l.sizes);
  fits : l.total ≤ l.size-index * (2 ^ 32 - 1);
  small : All (λ s. s < 2 ^ 32) (take l.size-index l.sizes);
  many : vec_len l.sums ≡ l.size-index;
  room : vec_capacity l.sums ≡ length l.sizes;
}
