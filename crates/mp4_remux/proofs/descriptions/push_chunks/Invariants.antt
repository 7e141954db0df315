use Rattle.std.proofs.Common.{◌≡◌, ◌++◌, drop}
use Rattle.mp4_remux.specs.Descriptions.{table_runs}
use Rattle.mp4_remux.proofs.descriptions.push_chunks.Given as goal

-- with the runs of the entries that come next all are there
abbrev pub invariant-loop-i : goal.invariant-loop-i
invariant-loop-i l =
    l.runs.items ++ table_runs l.count (drop l.i l.entries) ≡ l.fn.runs.items ++ table_runs l.count l.entries
