use Rattle.std.proofs.Common.{◌≡◌, ◌-◌, ◌^◌, length, take, min}
use Rattle.std.specs.Prelude.{vec_len, vec_capacity}
use Rattle.std.specs.List.{sum_by}
use Rattle.mp4_search.specs.Sums.{CountsBefore}
use Rattle.mp4_lookup.proofs.runs.counts_before.Given as goal

abbrev pub invariant-loop-run : goal.invariant-loop-run
invariant-loop-run g l = record {
  so_far : CountsBefore g.R.Run.count (take l.run-index l.runs) l.counts.items;
  count : l.count ≡ min (2 ^ 32 - 1) (sum_by g.R.Run.count (take l.run-index l.runs));
  many : vec_len l.counts ≡ l.run-index;
  room : vec_capacity l.counts ≡ length l.runs;
}
