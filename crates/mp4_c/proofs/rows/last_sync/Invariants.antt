-- From none of the rows that were passed over can decoding begin.
use Rattle.std.proofs.Common.{◌≡◌, ◌≤◌, ◌==◌, true}
use Rattle.std.specs.List.{AllWithin}
use Rattle.mp4_c.specs.declared.samples.SampleRow.{SampleRow}
use Rattle.mp4_c.proofs.rows.last_sync.Given as goal

abbrev pub invariant-loop-k : goal.invariant-loop-k
invariant-loop-k l = record {
  within : l.k ≤ l.count;
  later : AllWithin (λ (row : SampleRow). (row.is_sync == 0) ≡ true) l.rows l.k l.count;
}

abbrev pub decreases-loop-k : goal.decreases-loop-k
decreases-loop-k l = l.k
