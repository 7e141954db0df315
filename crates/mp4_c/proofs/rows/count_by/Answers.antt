-- Rows whose start times rise are parted at a time.
use Rattle.std.proofs.Common.{leb, rules}
use Rattle.std.proofs.lemmas.List.Sorted.{IsPartitionPoint-from_clause, IsPartitionedBy-leb}
use Rattle.mp4_c.specs.declared.samples.SampleRow.{SampleRow}
use Rattle.mp4_c.proofs.rows.count_by.Goals as goal

pub returns : goal.returns
returns c = record {
  within = c.partition_point.ensures.bound;
  first = λ rise.
      let parted = IsPartitionedBy-leb (λ (row : SampleRow). row.start_time) _ c.args.time rise in
      IsPartitionPoint-from_clause (λ (row : SampleRow). leb row.start_time c.args.time) _ _
      c.partition_point.ensures.partitioned parted (λ a r q k. search rules);
}
