use Rattle.std.proofs.Common.{◌≡◌, ◌<◌, min, take}
use Rattle.std.specs.Prelude.{IfSome}
use Rattle.std.specs.List.{sum_by}
use Rattle.mp4_fragments.specs.Index.{runs_of}
use Rattle.mp4_fragments.specs.RunSamples.{run_count}
use Rattle.mp4_fragments.specs.Sync.{AreBuilt, sync_at}
use Rattle.mp4_fragments.proofs.sync.spans_of.Given as goal

abbrev pub invariant-loop-entry : goal.invariant-loop-entry
invariant-loop-entry l =
    let runs = runs_of l.trafs l.track l.index in
    record {
      built : AreBuilt (sync_at runs) l.builder;
      opened : IfSome l.builder.begun (λ first. first < l.builder.count);
      count : l.builder.count ≡ min l.end (sum_by run_count (take l.entry-index runs));
      end : l.builder.end ≡ l.end;
    }
