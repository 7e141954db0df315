use Rattle.std.proofs.Common.{◌≡◌, ◌≤◌, ◌+◌, ◌++◌, map, nat_eq}
use Rattle.std.specs.Option.{option_to_list}
use Rattle.mp4_table.specs.Runs.{changes_after}
use Rattle.mp4_mux.proofs.TableSizes.{changes_at}
use Rattle.mp4_mux.proofs.table_sizes.chunk_entry_count.Given as goal

abbrev pub invariant-loop-chunk : goal.invariant-loop-chunk
invariant-loop-chunk l = record {
  so_far : l.count + changes_at l.chunks (option_to_list l.last) l.before l.chunk-index
      ≡ changes_after nat_eq 0 (map (λ c. c.count) (l.chunks ++ option_to_list l.last));
  count : l.count ≤ l.chunk-index;
}
