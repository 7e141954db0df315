use Rattle.std.proofs.Common.{leb, rules, arith}
use Rattle.std.proofs.lemmas.List.Sorted.{IsPartitionPoint-from_clause, IsPartitionedBy-leb}
use Rattle.mp4_remux.specs.declared.moves.Move.{Move}
use Rattle.mp4_remux.proofs.ClosedUp.{moves_in_order, says_none, says_one}
use Rattle.mp4_remux.proofs.moves.listed_place.Goals as goal

pub returns-then-after-eq0 : goal.returns-then-after-eq0
returns-then-after-eq0 c = λ extents closed.
    let parted = IsPartitionedBy-leb (λ (m : Move). m.from) c.args.list.now c.args.place
    (moves_in_order extents c.args.list.now closed.apart closed.are) in
    let point = IsPartitionPoint-from_clause (λ (m : Move). leb m.from c.args.place) _ _
    c.partition_point-after.ensures.partitioned parted (λ a r q k. search rules) in
    omega (
      arith,
      says_none c.args.place _ extents c.args.list.now closed.apart closed.are point c.if-after-eq0.true,
    )

pub returns : goal.returns
returns c = λ extents closed.
    let parted = IsPartitionedBy-leb (λ (m : Move). m.from) c.args.list.now c.args.place
    (moves_in_order extents c.args.list.now closed.apart closed.are) in
    let point = IsPartitionPoint-from_clause (λ (m : Move). leb m.from c.args.place) _ _
    c.partition_point-after.ensures.partitioned parted (λ a r q k. search rules) in
    let says = says_one c.args.place c.partition_point-after.result extents c.args.list.now
    (record { from = 0; end = 0; to = 0 }) closed.apart closed.are c.partition_point-after.ensures.bound point
    (omega arith) in
    omega (arith, says, c.min.ensures, c.saturating_sub-skipped.ensures, c.saturating_add.ensures)
