use Rattle.std.proofs.Common.{◌≡◌, ◌++◌, take, map}
use Rattle.std.specs.List.{sum_by}
use Rattle.mp4_mux.specs.SampleTables.{chunk_entries_from}
use Rattle.mp4_mux.proofs.TableSteps.{entries_at}
use Rattle.mp4_mux.proofs.tables.chunk_entries.Given as goal

abbrev pub invariant-loop-i : goal.invariant-loop-i
invariant-loop-i l = record {
  so_far : l.entries.items ++ entries_at l.chunks l.count l.samples l.i
      ≡ chunk_entries_from 0 1 1 (map (λ c. c.count) l.chunks);
  samples : l.samples ≡ sum_by (λ c. c.count) (take l.i l.chunks);
}
