use Rattle.std.proofs.Common.{leb, rules, sym, ap, subst, arith, ◌∙◌, ◌-◌, ◌≤◌, length, Some}
use Rattle.std.proofs.lemmas.List.Sorted.{IsPartitionPoint-from_clause, IsPartitionedBy-leb}
use Rattle.mp4_remux.specs.declared.piece.Piece.{Piece}
use Rattle.mp4_remux.specs.Splice.{IsPieceAt}
use Rattle.mp4_remux.proofs.Pieces.{rise, some_before, last_before, begins, is_piece}
use Rattle.mp4_remux.proofs.Numbered.{at_index}
use Rattle.mp4_remux.proofs.layout.Layout.piece_at.Goals as goal

pub overflow_sub-after : goal.overflow_sub-after
overflow_sub-after c =
    let ps = c.args.self.now.pieces.items in
    let follow = c.args.self.now.follow in
    let parted = IsPartitionedBy-leb (λ (p : Piece). p.at) ps c.args.place (rise _ _ ps 0 _ follow) in
    let point = IsPartitionPoint-from_clause (λ (p : Piece). leb p.at c.args.place) _ _
    (rw c.deref.ensures.value at c.partition_point-after.ensures.partitioned) parted (λ a r q k. search rules) in
    some_before _ _ ps _ c.args.place _ follow c.requires
    (rw c.deref.ensures.value at c.partition_point-after.ensures.bound) point

pub index-piece-requires : goal.index-piece-requires
index-piece-requires c =
    let ps = c.args.self.now.pieces.items in
    let follow = c.args.self.now.follow in
    let parted = IsPartitionedBy-leb (λ (p : Piece). p.at) ps c.args.place (rise _ _ ps 0 _ follow) in
    let point = IsPartitionPoint-from_clause (λ (p : Piece). leb p.at c.args.place) _ _
    (rw c.deref.ensures.value at c.partition_point-after.ensures.partitioned) parted (λ a r q k. search rules) in
    let some = some_before _ _ ps _ c.args.place _ follow c.requires
    (rw c.deref.ensures.value at c.partition_point-after.ensures.bound) point in
    omega (arith, some, c.partition_point-after.ensures.bound, c.deref.ensures.len)

pub overflow_sub-result : goal.overflow_sub-result
overflow_sub-result c =
    let ps = c.args.self.now.pieces.items in
    let follow = c.args.self.now.follow in
    let parted = IsPartitionedBy-leb (λ (p : Piece). p.at) ps c.args.place (rise _ _ ps 0 _ follow) in
    let point = IsPartitionPoint-from_clause (λ (p : Piece). leb p.at c.args.place) _ _
    (rw c.deref.ensures.value at c.partition_point-after.ensures.partitioned) parted (λ a r q k. search rules) in
    let at = begins _ _ ps _ c.args.place _ follow c.requires
    (rw c.deref.ensures.value at c.partition_point-after.ensures.bound) point c.index-piece.result.now in
    subst (λ (p : Piece). p.at ≤ c.args.place) (sym c.index-piece.ensures) at

pub returns-clause-at : goal.returns-clause-at
returns-clause-at c =
    let ps = c.args.self.now.pieces.items in
    let follow = c.args.self.now.follow in
    let parted = IsPartitionedBy-leb (λ (p : Piece). p.at) ps c.args.place (rise _ _ ps 0 _ follow) in
    let point = IsPartitionPoint-from_clause (λ (p : Piece). leb p.at c.args.place) _ _
    (rw c.deref.ensures.value at c.partition_point-after.ensures.partitioned) parted (λ a r q k. search rules) in
    let is = is_piece _ _ ps _ c.args.place _ follow c.requires
    (rw c.deref.ensures.value at c.partition_point-after.ensures.bound) point c.index-piece.result.now in
    let source_len = c.args.self.now.source_len in
    let made_len = length c.args.self.now.made.items in
    subst (λ (p : Piece). IsPieceAt source_len made_len ps c.args.place p (c.args.place - p.at))
    (sym c.index-piece.ensures) is

pub returns-clause-is : goal.returns-clause-is
returns-clause-is c =
    let ps = c.args.self.now.pieces.items in
    let follow = c.args.self.now.follow in
    let parted = IsPartitionedBy-leb (λ (p : Piece). p.at) ps c.args.place (rise _ _ ps 0 _ follow) in
    let point = IsPartitionPoint-from_clause (λ (p : Piece). leb p.at c.args.place) _ _
    (rw c.deref.ensures.value at c.partition_point-after.ensures.partitioned) parted (λ a r q k. search rules) in
    let last = last_before _ _ ps _ c.args.place _ follow c.requires
    (rw c.deref.ensures.value at c.partition_point-after.ensures.bound) point in
    let number = c.partition_point-after.result - 1 in
    (number, at_index ps number c.index-piece.result.now last ∙ ap (λ (p : Piece). Some p) (sym c.index-piece.ensures))
